-- Lists, batches and packets: what is written is read again, part by part, and what is read has one form.
use Rattle.std.proofs.Common.{◌≡◌, ℕ, zero, suc, ◌+◌, ◌<◌, ◌≤◌, Bool, true, false, eqb, ltb, List, [], ◌∷◌, ◌++◌, length, take, drop, Ok, Err, Result, sym, refl, ap, ◌∙◌, subst, inl, inr, true≢false, arith}
use Rattle.std.proofs.lemmas.Bool.Decides.{Decides-eqb, nat_tests}
use Rattle.std.proofs.lemmas.Grind.{common_steps}
use Rattle.std.proofs.lemmas.List.{length-drop, drop_all}
use Rattle.std.proofs.lemmas.Bool.{cases_Bool, ltb-false}
use Rattle.std.specs.Cmp.Lexicographic.{pointwise}
use Rattle.std.proofs.lemmas.Slice.Eq.{starts_is}
use Rattle.codec.specs.Limits.{max_beds, batch_tickets, packet_tickets, max_round}
use Rattle.codec.specs.Chain.{and_then, raise, map_ok}
use Rattle.codec.specs.Number.{form, Bytes}
use Rattle.codec.specs.Ticket.{InRange, ticket_at, ticket_bytes}
use Rattle.codec.specs.TicketList.{Sound, known, follows, tickets_bytes, list_bytes, count_at, next_at}
use Rattle.codec.specs.Reading.{Reading, head, head_first, ticket_first, list_reading, batch_head, packet_head, head_at, mark, marked, count_of, batch_reading, packet_reading, tickets_of, parts_at}
use Rattle.codec.specs.Batch.{batch_bytes, IsBatch, batch_of}
use Rattle.codec.specs.Packet.{packet_bytes, SoundPacket, IsPacket, packet_of}
use Rattle.codec.specs.declared.ticket.Ticket.{Ticket}
use Rattle.codec.specs.declared.ticket_list.ListFault.{ListFault}
use Rattle.codec.specs.declared.ticket_list.ListFault.TheVariants as lf
use Rattle.codec.specs.declared.whole.WholeFault.{WholeFault}
use Rattle.codec.specs.declared.whole.WholeFault.TheVariants as wf
use Rattle.codec.specs.declared.reader.Head.{Head}
use Rattle.codec.specs.declared.reader.Head.TheVariants as hd
use Rattle.codec.proofs.Chains.{ok_same, never, then_inv, raise_inv, cond_ok, cond_err}
use Rattle.codec.proofs.TicketLists.{After, sound_after, after_sound}
use Rattle.codec.proofs.TicketForms.{ranged_back, ranged_only, ticket_back, ticket_only, TicketRead}

-- ---- one ticket after others

next_back : (n : ℕ) (bs : List ℕ) (seen : List Ticket) (at : ℕ) (t : Ticket) (post : List ℕ) → n ≤ max_beds → InRange n t → follows t seen ≡ true → known t seen ≡ false
    → drop at bs ≡ ticket_bytes t ++ post → (next_at n bs seen at ≡ Ok (t, at + length (ticket_bytes t))) × (drop (at + length (ticket_bytes t)) bs ≡ post)
unfolding next_at
next_back n bs seen at t post h r f k e = let b = ticket_back n bs at t post h r e in grind (arith, common_steps)

next_only : (n : ℕ) (bs : List ℕ) (seen : List Ticket) (at : ℕ) (t : Ticket) (next : ℕ) → Bytes bs → next_at n bs seen at ≡ Ok (t, next)
    → TicketRead n bs at t next × (follows t seen ≡ true) × (known t seen ≡ false)
unfolding next_at
next_only n bs seen at t next small e =
    let p = then_inv (raise lf.Ticket (ticket_at n bs at)) _ (t, next) e in
    let f = cond_ok (follows p.0 seen) _ (lf.Order at) (t, next) p.3 in
    let k = cond_err (known p.0 seen) (lf.Repeated at) (Ok (p.0, p.1)) (t, next) f.1 in
    let s = ok_same (p.0, p.1) (t, next) k.1 in
    let r = ticket_only n bs at p.0 p.1 small (raise_inv lf.Ticket (ticket_at n bs at) (p.0, p.1) p.2) in
    subst (λ (x : Ticket × ℕ). TicketRead n bs at x.0 x.1 × (follows x.0 seen ≡ true) × (known x.0 seen ≡ false)) s (r, f.0, k.0)

-- ---- the tickets of a list

past_end : (bs : List ℕ) (at : ℕ) → drop at bs ≡ [] → length bs ≤ at
past_end bs at e = omega (arith, length-drop at bs, ap length e)

pub list_back : (n : ℕ) (bs : List ℕ) (seen ts : List Ticket) (at : ℕ) → n ≤ max_beds → After n seen ts → drop at bs ≡ tickets_bytes ts
    → list_reading n bs (length ts) seen at ≡ parts_at at ts
list_back n bs seen [] at h a e = grind (arith, nat_tests, past_end bs at e)
list_back n bs seen (t ∷ ts) at h a e =
    let b = next_back n bs seen at t (tickets_bytes ts) h a.0 a.1 a.2 e in
    let r = list_back n bs (seen ++ t ∷ []) ts (at + length (ticket_bytes t)) h a.3 b.1 in
    grind (arith, common_steps)

map_inv : (t : Ticket) (ts : List Ticket) (r : Result (List Ticket) WholeFault) → map_ok (λ us. t ∷ us) r ≡ Ok ts → (us : List Ticket) × (r ≡ Ok us) × (t ∷ us ≡ ts)
map_inv t ts (Ok us) e = (us, refl, ok_same (t ∷ us) ts e)
map_inv t ts (Err f) e = absurd (never f ts e)

first_inv : (bs : List ℕ) (at : ℕ) (r : Result (Ticket × ℕ) ListFault) (rest : Ticket → ℕ → Reading) (ts : List Ticket) → tickets_of (ticket_first bs at r rest) ≡ Ok ts
    → (t : Ticket) × (next : ℕ) × (us : List Ticket) × (r ≡ Ok (t, next)) × (tickets_of (rest t next) ≡ Ok us) × (t ∷ us ≡ ts)
first_inv bs at (Ok p) rest ts e = let m = map_inv p.0 ts (tickets_of (rest p.0 p.1)) e in (p.0, p.1, m.0, refl, m.1, m.2)
first_inv bs at (Err f) rest ts e = absurd (never (wf.List f) ts e)

pub list_only : (n : ℕ) (bs : List ℕ) (due : ℕ) (seen : List Ticket) (at : ℕ) (ts : List Ticket) → Bytes bs → tickets_of (list_reading n bs due seen at) ≡ Ok ts
    → After n seen ts × (length ts ≡ due) × (drop at bs ≡ tickets_bytes ts)
list_only n bs zero seen at ts small e = grind (arith, common_steps, drop_all at bs)
list_only n bs (suc due) seen at ts small e =
    let p = first_inv bs at (next_at n bs seen at) (λ u next. list_reading n bs due (seen ++ u ∷ []) next) ts e in
    let q = next_only n bs seen at p.0 p.1 small p.3 in
    let r = list_only n bs due (seen ++ p.0 ∷ []) p.1 p.2 small p.4 in
    rw (← p.5) ((q.0.ranged, q.1, q.2, r.0), ap suc r.1, q.0.bytes ∙ ap (λ (l : List ℕ). ticket_bytes p.0 ++ l) r.2)

-- ---- batches

pub batch_back : (n : ℕ) (ts : List Ticket) → n ≤ max_beds → Sound n batch_tickets ts
    → batch_reading n (batch_bytes ts) ≡ head (hd.Batch (length ts)) (parts_at (length (form (length ts))) ts)
unfolding batch_reading batch_head list_bytes
batch_back n ts h s = grind (arith, common_steps, ranged_back, list_back, sound_after)

head_inv : (r : Result (Head × ℕ) WholeFault) (rest : Head → ℕ → Reading) (ts : List Ticket) → tickets_of (head_first r rest) ≡ Ok ts
    → (h : Head) × (next : ℕ) × (r ≡ Ok (h, next)) × (tickets_of (rest h next) ≡ Ok ts)
head_inv (Ok p) rest ts e = (p.0, p.1, refl, e)
head_inv (Err f) rest ts e = absurd (never f ts e)

-- a sound list, from what its reading says
list_sound : (n most : ℕ) (ts : List Ticket) → After n [] ts → length ts ≤ most → Sound n most ts
list_sound n most ts a h = let s = after_sound n ts a in record { ranged = s.0; rising = s.1; apart = s.2; few = h }

pub batch_only : (n : ℕ) (bs : List ℕ) (ts : List Ticket) → Bytes bs → batch_of n bs ≡ Ok ts → IsBatch n bs ts
unfolding batch_of batch_reading batch_head list_bytes
batch_only n bs ts small e =
    let p = head_inv (and_then (raise wf.List (count_at bs 0 batch_tickets)) (λ count next. Ok (hd.Batch count, next))) (λ h next. list_reading n bs (count_of h) [] next) ts e in
    let q = then_inv (raise wf.List (count_at bs 0 batch_tickets)) (λ count next. Ok (hd.Batch count, next)) (p.0, p.1) p.2 in
    let c = ranged_only lf.Number lf.Count bs 0 q.0 0 (batch_tickets + 1) q.1 small (raise_inv wf.List (count_at bs 0 batch_tickets) (q.0, q.1) q.2) in
    let s = ok_same (hd.Batch q.0, q.1) (p.0, p.1) q.3 in
    let t : tickets_of (list_reading n bs q.0 [] q.1) ≡ Ok ts = ap (λ (x : Head × ℕ). tickets_of (list_reading n bs (count_of x.0) [] x.1)) s ∙ p.3 in
    let r = list_only n bs q.0 [] q.1 ts small t in
    record {
      sound = list_sound n batch_tickets ts r.0 (omega (arith, r.1, c.2));
      bytes = grind (arith, c.0.bytes);
    }

parts_tickets : (at : ℕ) (ts : List Ticket) → tickets_of (parts_at at ts) ≡ Ok ts
parts_tickets at [] = refl
parts_tickets at (t ∷ ts) = grind (arith, parts_tickets (at + length (ticket_bytes t)) ts)

pub batch_whole : (n : ℕ) (bs : List ℕ) (ts : List Ticket) → n ≤ max_beds → IsBatch n bs ts → batch_of n bs ≡ Ok ts
unfolding batch_of
batch_whole n bs ts h b = grind (arith, common_steps, batch_back n ts h b.sound, parts_tickets)

head_same : (g h : Head) (x y : Reading) → head g x ≡ head h y → (g ≡ h) × (x ≡ y)
head_same g h x y e = (cc, cc)

-- ---- packets

pub packet_back : (n bed round : ℕ) (ts : List Ticket) → n ≤ max_beds → SoundPacket n bed round ts
    → packet_reading n (packet_bytes bed round ts)
    ≡ head (hd.Packet bed round (length ts)) (parts_at (length mark + length (form bed) + length (form round) + length (form (length ts))) ts)
unfolding packet_reading packet_head packet_bytes list_bytes
packet_back n bed round ts h s = grind (arith, common_steps, ranged_back, list_back, sound_after)

-- what the first bytes are where the mark is right
marked_only : (bs : List ℕ) → marked bs ≡ true → length mark ≤ length bs → bs ≡ mark ++ drop (length mark) bs
marked_only bs m h = grind (arith, nat_tests)

-- what it says that the bytes start with the mark
pub starts_marked : (bs : List ℕ) (r : Bool) → length mark ≤ length bs → r ≡ pointwise eqb mark (take (length mark) bs) → r ≡ marked bs
starts_marked bs true h m = sym (ap marked ((starts_is Decides-eqb bs mark true m).0 refl))
starts_marked bs false h m =
    elim (cases_Bool (marked bs)) [ inl t ↦ absurd (true≢false (sym ((starts_is Decides-eqb bs mark false m).1 (drop (length mark) bs) (marked_only bs t h)))) | inr f ↦ sym f ]

-- what a packet's head says of the bytes
pub record HeadRead (n : ℕ) (bs : List ℕ) (most : ℕ) (h : Head) (next : ℕ) : Type 0 where
  pub bed : ℕ
  pub round : ℕ
  pub count : ℕ
  pub is : h ≡ hd.Packet bed round count
  pub bed_in : bed < n
  pub round_in : round ≤ max_round
  pub few : count ≤ most
  pub bytes : bs ≡ mark ++ form bed ++ form round ++ (form count ++ drop next bs)

pub packet_head_only : (n : ℕ) (bs : List ℕ) (most : ℕ) (h : Head) (next : ℕ) → Bytes bs → packet_head n bs most ≡ Ok (h, next) → HeadRead n bs most h next
unfolding packet_head
packet_head_only n bs most h next small e =
    let c1 = cond_err (ltb (length bs) (length mark)) wf.Short _ (h, next) e in
    let c2 = cond_ok (marked bs) _ wf.Mark (h, next) c1.1 in
    let p = then_inv (head_at bs (length mark) n) _ (h, next) c2.1 in
    let q = then_inv (head_at bs p.1 (max_round + 1)) _ (h, next) p.3 in
    let r = then_inv (raise wf.List (count_at bs q.1 most)) _ (h, next) q.3 in
    let b = ranged_only wf.Number wf.Head bs (length mark) p.0 0 n p.1 small p.2 in
    let o = ranged_only wf.Number wf.Head bs p.1 q.0 0 (max_round + 1) q.1 small q.2 in
    let c = ranged_only lf.Number lf.Count bs q.1 r.0 0 (most + 1) r.1 small (raise_inv wf.List (count_at bs q.1 most) (r.0, r.1) r.2) in
    let s = ok_same (hd.Packet p.0 q.0 r.0, r.1) (h, next) r.3 in
    let long : length mark ≤ length bs = ltb-false (length bs) (length mark) c1.0 in
    record {
      bed = p.0;
      round = q.0;
      count = r.0;
      is = sym (ap (λ (x : Head × ℕ). x.0) s);
      bed_in = b.2;
      round_in = omega (arith, o.2);
      few = omega (arith, c.2);
      bytes = marked_only bs c2.0 long ∙ grind (arith, common_steps, b.0.bytes, o.0.bytes, c.0.bytes);
    }

-- the tickets that come after a packet's head
pub packet_list_only : (n : ℕ) (bs : List ℕ) (h : Head) (next : ℕ) (ts : List Ticket) → Bytes bs → (r : HeadRead n bs packet_tickets h next)
    → tickets_of (list_reading n bs (count_of h) [] next) ≡ Ok ts → (length ts ≡ r.count) × IsPacket n bs r.bed r.round ts
unfolding packet_bytes list_bytes
packet_list_only n bs h next ts small r e =
    let l = list_only n bs (count_of h) [] next ts small e in
    let c : length ts ≡ r.count = l.1 ∙ ap count_of r.is in (
      c,
      record {
        sound = record { bed_in = r.bed_in; round_in = r.round_in; sound = list_sound n packet_tickets ts l.0 (omega (arith, c, r.few)) };
        bytes = grind (arith, r.bytes);
      },
    )

first_head : (r : Result (Head × ℕ) WholeFault) (rest : Head → ℕ → Reading) (h : Head) (x : Reading) → head_first r rest ≡ head h x
    → (next : ℕ) × (r ≡ Ok (h, next)) × (x ≡ rest h next)
first_head (Ok p) rest h x e =
    let s = head_same p.0 h (rest p.0 p.1) x e in
    (p.1, ap (λ (g : Head). Ok (g, p.1)) s.0, sym s.1 ∙ ap (λ (g : Head). rest g p.1) s.0)
first_head (Err g) rest h x e = absurd cc

pub packet_begins : (n : ℕ) (bs : List ℕ) (h : Head) (rest : Reading) → packet_reading n bs ≡ head h rest
    → (next : ℕ) × (packet_head n bs packet_tickets ≡ Ok (h, next)) × (rest ≡ list_reading n bs (count_of h) [] next)
unfolding packet_reading
packet_begins n bs h rest e = first_head (packet_head n bs packet_tickets) (λ g next. list_reading n bs (count_of g) [] next) h rest e

pub packet_whole : (n : ℕ) (bs : List ℕ) (bed round : ℕ) (ts : List Ticket) → n ≤ max_beds → IsPacket n bs bed round ts → packet_of n bs ≡ Ok (hd.Packet bed round (length ts), ts)
unfolding packet_of
packet_whole n bs bed round ts h p = let b = packet_back n bed round ts h p.sound in grind (arith, common_steps, packet_begins, parts_tickets)
