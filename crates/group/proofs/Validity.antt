-- Validity: every ticket in a set, a kept batch or a queue was submitted, as long as beds hear only what beds sent.
use Rattle.std.proofs.Common.{◌≡◌, ℕ, ◌≤◌, List, [], ◌∷◌, ◌++◌, Ok, Err, sym, refl, ap, ◌∙◌, subst, inl, inr, arith}
use Rattle.std.proofs.lemmas.List.{append-nil, append_assoc}
use Rattle.std.proofs.ByRecursion.{has_append_left, has_push, has_push_cases}
use Rattle.codec.specs.Limits.{max_beds}
use Rattle.codec.specs.TicketList.{Each}
use Rattle.codec.specs.Packet.{packet_bytes, IsPacket, SoundPacket}
use Rattle.codec.specs.declared.ticket.Ticket.{Ticket}
use Rattle.codec.proofs.FormLaws.{packet_laws}
use Rattle.codec.proofs.TicketLists.{each_weaker}
use Rattle.group.specs.World.{World, bed, size, Running}
use Rattle.group.specs.Outcome.{Answer}
use Rattle.group.specs.Calls.{Does, SendDoes, sent_bytes, own_packet}
use Rattle.group.specs.History.{Event, History, New, Lived, Earlier, after}
use Rattle.group.specs.Validity.{SubmittedBy, WrittenBy, OnlySentHeard, Validity}
use Rattle.group.specs.declared.call.Reply.TheVariants as rp
use Rattle.group.specs.declared.call.SentPacket.{SentPacket}
use Rattle.group.specs.declared.refusal.Refusal.{Refusal}
use Rattle.group.proofs.Appends.{nth_each}
use Rattle.group.proofs.Delivered.{delivered_each}
use Rattle.group.proofs.Stores.{decided_tickets}
use Rattle.group.proofs.Steps.{Good, Feeds, Next, in_group}
use Rattle.group.proofs.Moves.{step}
use Rattle.group.proofs.Runs.{new_good, lived_split}

-- a ticket that was submitted so far
abbrev Valid : History → Ticket → Type 0
Valid past t = Earlier past (SubmittedBy t)

-- every packet that was sent so far holds such tickets
abbrev SendsValid : ℕ → History → Type 0
SendsValid n past = (bytes : List ℕ) (from round : ℕ) (ts : List Ticket) → Earlier past (WrittenBy bytes) → IsPacket n bytes from round ts → Each (Valid past) ts

valid_more : (past : History) (e : Event) (t : Ticket) → Valid past t → Valid (past ++ (e ∷ [])) t
valid_more past e t v = (v.0, has_append_left past (e ∷ []) v.0 v.1, v.2)

-- ---- what a send wrote

sent_not : (p : SentPacket) (a : Answer) (r : Refusal) {P : Type 0} → a ≡ Ok (rp.Sent p) → a ≡ Err r → P
sent_not p a r e f = let z : ◌≡◌ {A = ℕ} 0 1 = cc in absurd (omega arith)

sent_bytes_lem : (w : World) (b room : ℕ) (a : Answer) (w' : World) (p : SentPacket) → a ≡ Ok (rp.Sent p) → SendDoes w b room a w' → Running w b × (sent_bytes p ≡ own_packet w b)
sent_bytes_lem w b room a w' p e (inl h) = sent_not p a _ e h.1.0
sent_bytes_lem w b room a w' p e (inr (_, inl h)) = sent_not p a _ e h.1.0
sent_bytes_lem w b room a w' p e (inr (_, inr (run, inl h))) = sent_not p a _ e h.1.0
sent_bytes_lem w b room a w' p e (inr (_, inr (run, inr h))) = let f = h.1.answer in let s : p ≡ h.1.packet = cc in (run, ap sent_bytes s ∙ h.1.bytes)

module _ (named n : ℕ) (most : n ≤ max_beds) where
  sends_more : (past : History) (e : Event) → Good (Valid past) n e.before → Does named e.before e.call e.answer e.after → SendsValid n past → SendsValid n (past ++ (e ∷ []))
  sends_more past e g does old bytes from round ts (s, has, by) p =
      each_weaker (Valid past) (Valid (past ++ (e ∷ []))) (valid_more past e) ts
      (elim (has_push_cases past e s has) [ inl h ↦ old bytes from round ts (s, h, by) p | inr h ↦ now (subst (WrittenBy bytes) (sym h) by) ])
    where
      now : WrittenBy bytes e → Each (Valid past) ts
      now by =
          let w = e.before in
          let b = by.bed in
          let out = sent_bytes_lem w b by.room e.answer e.after by.packet by.answer (subst (λ c. Does named w c e.answer e.after) by.call does) in
          let x = g.bed b out.0 in
          let own : SoundPacket n b (bed w b).round (bed w b).waiting = record { bed_in = in_group (Valid past) n w g b out.0; round_in = x.round; sound = x.set.sound } in
          let same : packet_bytes from round ts ≡ own_packet w b = sym p.bytes ∙ sym by.same ∙ out.1 in
          let one = packet_laws.one n from round b (bed w b).round ts (bed w b).waiting most p.sound own same in
          subst (Each (Valid past)) (sym one.2) x.set.valid

  feeds : (past rest : History) (e : Event) → OnlySentHeard (past ++ (e ∷ rest)) → SendsValid n past → Feeds (Valid (past ++ (e ∷ []))) n e.call e.answer
  feeds past rest e only sends =
      record {
        submitted = λ b number paths sheet call acc. (e, has_push past e, record { call = call; accepted = acc });
        heard = λ bytes from round ts heard acc p.
            each_weaker (Valid past) (Valid (past ++ (e ∷ []))) (valid_more past e) ts (sends bytes from round ts (only past rest e bytes refl heard acc) p);
      }

  -- from a past that went well through what is still to come
  valid_run : (todo past : History) (w w' : World) → OnlySentHeard (past ++ todo) → Good (Valid past) n w → SendsValid n past → Lived named w todo w' → Good (Valid (past ++ todo)) n (after w todo)
  valid_run [] past w w' only g sends l = subst (λ h. Good (Valid h) n w) (sym (append-nil past)) g
  valid_run (e ∷ todo) past w w' only g sends l =
      let ge : Good (Valid past) n e.before = subst (Good (Valid past) n) (sym l.0) g in
      let s : Next (Valid (past ++ (e ∷ []))) n e.before e.answer e.after =
      step named (record { most = most; good = ge; more = valid_more past e }) e.call (feeds past todo e only sends) l.1 in
      let split : (past ++ (e ∷ [])) ++ todo ≡ past ++ (e ∷ todo) = append_assoc past (e ∷ []) todo in
      subst (λ h. Good (Valid h) n (after e.after todo)) split
      (valid_run todo (past ++ (e ∷ [])) e.after w' (subst OnlySentHeard (sym split) only) s.good (sends_more past e ge l.1 sends) l.2)

pub validity : (named : ℕ) (w₀ : World) (h : History) (w : World) → New w₀ → Lived named w₀ h w → Validity w₀ h
validity named w₀ h w new l past rest eq only b place t shows =
    let n = size w₀ in
    let s = lived_split named past rest w₀ w (subst (λ k. Lived named w₀ k w) eq l) in
    let u = after w₀ past in
    let g : Good (Valid past) n u =
    valid_run named n new.most past [] w₀ u only (new_good (Valid []) w₀ new) (λ bytes from round ts e p. absurd (omega (arith, e.1.1))) s.0 in
    let q : Each (Valid past) (bed u b).queue =
    subst (Each (Valid past)) (sym (g.bed b shows.0).queue)
    (delivered_each (Valid past) n u.board.decision (bed u b).round
    (decided_tickets (Each (Valid past)) (Valid past) n u.kept u.board new.most g.store tt (λ v batch. batch.valid))) in
    nth_each (Valid past) (bed u b).queue place t q shows.1
