-- Batches and packets read at once: what the readers of the code answer.
use Rattle.std.proofs.Common.{◌≡◌, ℕ, ◌≤◌, List, [], ◌++◌, length, Ok, Err, Result, sym, refl, ap, ◌∙◌, subst, arith}
use Rattle.std.proofs.lemmas.Grind.{common_steps}
use Rattle.codec.specs.Limits.{max_beds, packet_tickets}
use Rattle.codec.specs.Chain.{map_ok}
use Rattle.codec.specs.Number.{Bytes}
use Rattle.codec.specs.Tickets.{Tickets, listed}
use Rattle.codec.specs.Reading.{Reading, head, ticket, ended, head_first, list_reading, packet_head, count_of, packet_reading, remaining, seen_by, tickets_of, Steps}
use Rattle.codec.specs.Batch.{batch_of, ReadBatch}
use Rattle.codec.specs.Packet.{IsPacket, packet_of, packet_parts, ReadPacket}
use Rattle.codec.specs.declared.packet.Packet.{Packet}
use Rattle.codec.specs.declared.ticket.Ticket.{Ticket}
use Rattle.codec.specs.declared.reader.Head.{Head}
use Rattle.codec.specs.declared.reader.Head.TheVariants as hd
use Rattle.codec.specs.declared.reader.Part.{Part}
use Rattle.codec.specs.declared.reader.Part.TheVariants as pt
use Rattle.codec.specs.declared.reader.Reader.{Reader}
use Rattle.codec.specs.declared.whole.WholeFault.{WholeFault}
use Rattle.codec.proofs.Chains.{ok_same, never, then_inv}
use Rattle.codec.proofs.ListForms.{batch_only, batch_whole, HeadRead, packet_head_only, packet_list_only, packet_begins, packet_whole}

-- the tickets handed out so far and those to come, or the fault to come
abbrev pub all_of : Reader → Result (List Ticket) WholeFault
all_of s = map_ok (λ ts. seen_by s ++ ts) (tickets_of (remaining s))

map_same : {A F : Type 0} (r : Result (List A) F) → map_ok (λ ts. [] ++ ts) r ≡ r
map_same (Ok ts) = refl
map_same (Err f) = refl

-- a reader that has handed out no ticket
pub all_fresh : (s : Reader) (r : Reading) → remaining s ≡ r → seen_by s ≡ [] → all_of s ≡ tickets_of r
all_fresh s r e z = let m = map_same (tickets_of r) in grind (arith, common_steps)

pub batch_sound : (n : ℕ) (bs : List ℕ) (r : Result Tickets WholeFault) → n ≤ max_beds → Bytes bs → map_ok listed r ≡ batch_of n bs → ReadBatch n bs r
batch_sound n bs (Ok l) h small e = batch_only n bs (listed l) small (sym e)
batch_sound n bs (Err f) h small e = λ ts b. never f ts (e ∙ batch_whole n bs ts h b)

-- ---- packets

-- after the head, what the tickets come to
pub packet_rest : (n : ℕ) (bs : List ℕ) (h : Head) (rest : Reading) → packet_reading n bs ≡ head h rest → packet_of n bs ≡ map_ok (λ ts. (h, ts)) (tickets_of rest)
unfolding packet_of
packet_rest n bs h rest e = let b = packet_begins n bs h rest e in grind (arith, common_steps)

pub packet_head_is : (n : ℕ) (bs : List ℕ) (h : Head) (rest : Reading) → Bytes bs → packet_reading n bs ≡ head h rest
    → (next : ℕ) × HeadRead n bs packet_tickets h next × (rest ≡ list_reading n bs (count_of h) [] next)
packet_head_is n bs h rest small e = let b = packet_begins n bs h rest e in (b.0, packet_head_only n bs packet_tickets h b.0 small b.1, b.2)

pub packet_same : (b r c b' r' c' : ℕ) → hd.Packet b r c ≡ hd.Packet b' r' c' → (b ≡ b') × (r ≡ r') × (c ≡ c')
packet_same b r c b' r' c' e = (cc, cc, cc)

pub packet_moved : (n : ℕ) (bs : List ℕ) (b r b' r' : ℕ) (ts : List Ticket) → b ≡ b' → r ≡ r' → IsPacket n bs b' r' ts → IsPacket n bs b r ts
packet_moved n bs b r b' r' ts e f p = rw (e, f) p

-- the tickets of a packet, by its head
map_pair : (h g : Head) (ts : List Ticket) (r : Result (List Ticket) WholeFault) → map_ok {B = Head × List Ticket} (λ us. (h, us)) r ≡ Ok (g, ts) → (h ≡ g) × (r ≡ Ok ts)
map_pair h g ts (Ok us) e = let s = ok_same (h, us) (g, ts) e in (ap (λ (p : Head × List Ticket). p.0) s, ap (λ (p : Head × List Ticket). Ok p.1) s)
map_pair h g ts (Err f) e = absurd (never f (g, ts) e)

pub packet_only : (n : ℕ) (bs : List ℕ) (bed round count : ℕ) (ts : List Ticket) → Bytes bs → packet_of n bs ≡ Ok (hd.Packet bed round count, ts) → (count ≡ length ts) × IsPacket n bs bed round ts
unfolding packet_of
packet_only n bs bed round count ts small e =
    let p = then_inv (packet_head n bs packet_tickets) _ (hd.Packet bed round count, ts) e in
    let m = map_pair p.0 (hd.Packet bed round count) ts (tickets_of (list_reading n bs (count_of p.0) _ p.1)) p.3 in
    let r = packet_head_only n bs packet_tickets p.0 p.1 small p.2 in
    let l = packet_list_only n bs p.0 p.1 ts small r m.1 in
    let s = packet_same bed round count r.bed r.round r.count (sym m.0 ∙ r.is) in
    (s.2 ∙ sym l.0, packet_moved n bs bed round r.bed r.round ts s.0 s.1 l.1)

-- what is read is right, or there is none
pub packet_sound : (n : ℕ) (bs : List ℕ) (r : Result Packet WholeFault) → n ≤ max_beds → Bytes bs → map_ok packet_parts r ≡ packet_of n bs → ReadPacket n bs r
packet_sound n bs (Ok p) h small e = (packet_only n bs p.bed p.round (length (listed p.tickets)) (listed p.tickets) small (sym e)).1
packet_sound n bs (Err f) h small e = λ bed round ts p. never f (hd.Packet bed round (length ts), ts) (e ∙ packet_whole n bs bed round ts h p)

-- all of it is right
pub packet_right : (n : ℕ) (bs : List ℕ) (bed round count : ℕ) (rest : Reading) (ts : List Ticket) → Bytes bs → packet_reading n bs ≡ head (hd.Packet bed round count) rest → tickets_of rest ≡ Ok ts
    → (packet_of n bs ≡ Ok (hd.Packet bed round (length ts), ts)) × IsPacket n bs bed round ts
packet_right n bs bed round count rest ts small e t =
    let o = packet_only n bs bed round count ts small (packet_rest n bs (hd.Packet bed round count) rest e ∙ ap (map_ok (λ us. (hd.Packet bed round count, us))) t) in
    (packet_rest n bs (hd.Packet bed round count) rest e ∙ grind arith, o.1)

no_ticket : (r : Result (Head × ℕ) WholeFault) (rest : Head → ℕ → Reading) (at : ℕ) (bytes : List ℕ) (k : Ticket) (x : Reading) → head_first r rest ≡ ticket at bytes k x → ⊥
no_ticket (Ok p) rest at bytes k x e = cc
no_ticket (Err f) rest at bytes k x e = cc

no_end : (r : Result (Head × ℕ) WholeFault) (rest : Head → ℕ → Reading) (at : ℕ) → head_first r rest ≡ ended at → ⊥
no_end (Ok p) rest at e = cc
no_end (Err f) rest at e = cc

-- the first part of a packet is its head
pub first_part : (n : ℕ) (bs : List ℕ) (s t : Reader) (p : Part) → remaining s ≡ packet_reading n bs → Steps s (Ok p) t → (h : Head) × (p ≡ pt.Head h)
unfolding packet_reading
first_part n bs s t (pt.Head h) e g = (h, refl)
first_part n bs s t (pt.Ticket offset bytes k) e g = absurd (no_ticket (packet_head n bs packet_tickets) _ offset bytes.now k (remaining t) (sym e ∙ g.0))
first_part n bs s t pt.End e g = absurd (no_end (packet_head n bs packet_tickets) _ (length s.bytes.now) (sym e ∙ g.0))

-- what the reader answers after a head
pub begun : (n : ℕ) (bs : List ℕ) (s t : Reader) (h : Head) → remaining s ≡ packet_reading n bs → seen_by s ≡ [] → Steps s (Ok (pt.Head h)) t
    → (packet_reading n bs ≡ head h (remaining t)) × (all_of t ≡ tickets_of (remaining t))
begun n bs s t h e z g = (sym e ∙ g.0, all_fresh t (remaining t) refl (g.1 ∙ z))

-- so it names a bed and a round
pub first_head : (n : ℕ) (bs : List ℕ) (s t : Reader) (p : Part) → Bytes bs → remaining s ≡ packet_reading n bs → seen_by s ≡ [] → Steps s (Ok p) t
    → (bed round count : ℕ) × (p ≡ pt.Head (hd.Packet bed round count))
first_head n bs s t p small e z g =
    let f = first_part n bs s t p e g in
    let b = begun n bs s t f.0 e z (subst (λ (x : Part). Steps s (Ok x) t) f.1 g) in
    let h = (packet_head_is n bs f.0 (remaining t) small b.0).1 in
    (h.bed, h.round, h.count, f.1 ∙ ap pt.Head h.is)
