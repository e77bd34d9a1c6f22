-- What a hear comes to, ticket by ticket, in the record of a bed.
use Rattle.std.proofs.Common.{◌≡◌, ℕ, ◌+◌, ◌<◌, ◌≤◌, max, cond, ltb, List, map, length, take, set, Ok, Err, sym, refl, ap, ◌∙◌, subst, inl, inr, arith}
use Rattle.std.proofs.lemmas.Bool.{cases_Bool, cases_lt, cond-true, cond-false, lt-ltb, le-ltb}
use Rattle.codec.specs.Ticket.{InRange}
use Rattle.codec.specs.TicketList.{Each, Sound}
use Rattle.codec.specs.Packet.{IsPacket, packet_of}
use Rattle.codec.specs.declared.whole.Source.TheVariants as so
use Rattle.codec.specs.declared.whole.WholeFault.{WholeFault}
use Rattle.memory.specs.Meaning.{Slots}
use Rattle.decision.specs.Meaning.{Board}
use Rattle.codec.specs.declared.ticket.Ticket.{Ticket}
use Rattle.group.specs.Limits.{set_tickets}
use Rattle.group.specs.Hearing.{Hearing, unheard, hear_one, hear_all}
use Rattle.group.specs.World.{Bed, bed}
use Rattle.group.specs.Outcome.{faulty}
use Rattle.group.specs.Calls.{HearDoes, heard_by, counts_of, later_of, hearing}
use Rattle.group.specs.Table.{world_of, no_record, record_of}
use Rattle.group.specs.Record.{bed_of, BedSound, with_heard, waiting_in, queued_in, record_knows, with_waiting, hearing_of, HearsOne, HearsAll}
use Rattle.group.specs.declared.bed.BedRecord.{BedRecord}
use Rattle.group.specs.declared.call.Heard.{Heard}
use Rattle.group.specs.declared.call.Reply.TheVariants.{Heard as HeardReply}
use Rattle.group.specs.declared.table.Table.{Table}
use Rattle.group.proofs.Hearings.{hear_laws}
use Rattle.group.proofs.Tables.{table_size, table_bed, table_changed, runs, Admitted}

-- one ticket, in all cases at once
pub record Step (t : Ticket) (h : Heard) (r : BedRecord) (h' : Heard) (r' : BedRecord) : Type 0 where
  pub hearing : hearing_of r' h' ≡ hear_one (queued_in r.queue) (hearing_of r h) t
  pub count : h'.taken + h'.full ≤ h.taken + h.full + 1
  pub rest : r' ≡ with_waiting r r'.waiting

pub step : (t : Ticket) (h : Heard) (r : BedRecord) (h' : Heard) (r' : BedRecord) → HearsOne t h r h' r' → Step t h r h' r'
step t h r h' r' one =
    elim (cases_Bool (record_knows r t)) [
      | inl k ↦
          let p = one.known k in
          subst (λ x. Step t h r x r') (sym p.0)
          (subst (λ x. Step t h r h x) (sym p.1)
          (record { hearing = sym (cond-true _ _ _ k); count = omega arith; rest = refl }))
      | inr k ↦
          elim (cases_lt (length (waiting_in r.waiting)) set_tickets) [
            | inr f ↦
                let p = one.full k f in
                subst (λ x. Step t h r x r') (sym p.0)
                (subst (λ x. Step t h r (record { taken = h.taken; full = h.full + 1 }) x) (sym p.1)
                (record {
                  hearing = sym (cond-false _ _ _ k ∙ cond-false _ _ _ (le-ltb (length (waiting_in r.waiting)) set_tickets f));
                  count = omega arith;
                  rest = refl;
                }))
            | inl f ↦
                let p = one.takes k f in
                subst (λ x. Step t h r x r') (sym p.0)
                (record {
                  hearing =
                      ap (λ s. record { set = s; taken = h.taken + 1; full = h.full }) p.1
                      ∙ sym (cond-false _ _ _ k ∙ cond-true _ _ _ (lt-ltb (length (waiting_in r.waiting)) set_tickets f));
                  count = omega arith;
                  rest = p.2;
                })
          ]
    ]

-- the round that is remembered
pub later : (own heard round : ℕ) → own < round → heard < round → round ≡ cond (ltb own round) (max heard round) heard
later own heard round a b = sym (cond-true _ _ _ (lt-ltb own round a) ∙ omega arith)

pub no_later : (own heard round : ℕ) → ((own < round) → (heard < round) → ⊥) → heard ≡ cond (ltb own round) (max heard round) heard
no_later own heard round f =
    elim (cases_lt own round) [
      | inl a ↦ elim (cases_lt heard round) [ inl b ↦ absurd (f a b) | inr b ↦ sym (cond-true _ _ _ (lt-ltb own round a) ∙ omega arith) ]
      | inr a ↦ sym (cond-false _ _ _ (le-ltb own round a))
    ]

-- ---- the record stays sound

pub heard_sound : (n k : ℕ) (ts : List Ticket) (r r₁ : BedRecord) (h : Heard) (r₂ : BedRecord) → r₁ ≡ with_heard r k → HearsAll ts r₁ h r₂ → Each (InRange n) ts → BedSound n r → BedSound n r₂
heard_sound n k ts r r₁ h r₂ e all ranged s =
    subst (BedSound n) (sym (all.rest ∙ ap (λ (x : BedRecord). with_waiting x r₂.waiting) e))
    (record {
      set = subst (Sound n set_tickets) (sym (ap (λ (x : Hearing). x.set) all.hearing ∙ ap (λ (x : BedRecord). (hear_all (queued_in x.queue) (unheard (waiting_in x.waiting)) ts).set) e)) (hear_laws.sound n (queued_in r.queue) (waiting_in r.waiting) ts ranged s.set);
      queue_len = s.queue_len;
      round = s.round;
      waits = s.waits;
    })

-- ---- the call

module _ (t : Table) (kept : Slots) (board : Board) (b i : ℕ) (on : Admitted t b i) (bytes : List ℕ) where
  shows : bed (world_of t kept board) b ≡ bed_of (record_of t i)
  shows = table_bed t b no_record on.low ∙ ap (λ k. bed_of (record_of t k)) (sym on.place)

  pub hear_faulty : (f : WholeFault) → packet_of t.size.count bytes ≡ Err f → HearDoes (world_of t kept board) b bytes (Err (faulty f b (record_of t i).round so.Packet)) (world_of t kept board)
  hear_faulty f e =
      runs t kept board b _ _ on.low on.on
      (inl (record {
        fault = f;
        read = ap (λ k. packet_of k bytes) (table_size t) ∙ e;
        refusal = (ap (λ (x : Bed). Err (faulty f b x.round so.Packet)) (sym shows), refl);
      }))

  pub hear_takes : (from round : ℕ) (ts : List Ticket) → IsPacket t.size.count bytes from round ts → (r₁ : BedRecord) (h : Heard) (r₂ : BedRecord) →
      r₁ ≡ with_heard (record_of t i) (later_of (record_of t i).round (record_of t i).heard round) → HearsAll ts r₁ h r₂ →
      HearDoes (world_of t kept board) b bytes (Ok (HeardReply h)) (record { beds = map bed_of (take t.size.count (set t.beds i r₂)); kept = kept; board = board })
  hear_takes from round ts packet r₁ h r₂ e all =
      let own : BedRecord = record_of t i in
      let counts : hearing_of r₂ h ≡ heard_by (bed_of own) ts = all.hearing ∙ ap (λ (x : BedRecord). hear_all (queued_in x.queue) (unheard (waiting_in x.waiting)) ts) e in
      runs t kept board b _ _ on.low on.on
      (inr (record {
        from = from;
        round = round;
        tickets = ts;
        packet = subst (λ k. IsPacket k bytes from round ts) (sym (table_size t)) packet;
        answer = ap (λ x. Ok (HeardReply (counts_of x))) (counts ∙ ap (λ (x : Bed). heard_by x ts) (sym shows));
        after =
            table_changed t kept board b i r₂ _ on.place on.low
            (ap bed_of (all.rest ∙ ap (λ (x : BedRecord). with_waiting x r₂.waiting) e)
            ∙ ap (λ (x : Hearing). record { phase = own.phase; round = own.round; heard = later_of own.round own.heard round; waiting = x.set; queue = queued_in own.queue }) counts
            ∙ ap (λ (x : Bed). hearing x round ts) (sym shows));
      }))
