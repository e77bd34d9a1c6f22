-- A group lives on: whatever it lived before, the law holds with the calls that are made now.
use Rattle.std.proofs.Common.{◌≡◌, ℕ, ◌+◌, ◌<◌, ◌≤◌, List, [], ◌∷◌, ◌++◌, length, get_or, take, drop, set, Ok, sym, refl, ap, ◌∙◌, subst, inr, arith, length-take-le, take_all, drop-drop, drop-set-lt}
use Rattle.std.proofs.lemmas.List.{take_more, take_more_set, map_push}
use Rattle.group.specs.World.{World}
use Rattle.group.specs.Outcome.{Answer}
use Rattle.group.specs.Calls.{Does}
use Rattle.group.specs.History.{Event, History, Lived}
use Rattle.group.specs.Row.{LivesOn, Made, Runs, answers_of}
use Rattle.group.specs.declared.call.Call.{Call}
use Rattle.group.proofs.Whole.{law_holds, besides_holds}

pub lived_join : (named : ℕ) (g h : History) (u v w : World) → Lived named u g v → Lived named v h w → Lived named u (g ++ h) w
lived_join named [] h u v w l m = subst (λ x. Lived named x h w) l m
lived_join named (e ∷ g) h u v w l m = (l.0, l.1, lived_join named g h e.after v w l.2 m)

pub lives_on : (named : ℕ) (w : World) (made : History) (w' : World) → Lived named w made w' → LivesOn named w made w'
lives_on named w made w' l w₀ past new lived =
    let whole = lived_join named past made w₀ w w' lived l in
    (whole, law_holds named w₀ (past ++ made) w' new whole, besides_holds named w₀ (past ++ made) w' new whole)

module _ (named : ℕ) (w : World) (calls : List Call) (was : List Answer) where
  pub none_made : Made named w [] was was w
  none_made = record { history = []; each = refl; first = refl; rest = refl; lived = refl }

  pub one_more : (n : ℕ) (answers : List Answer) (u v : World) (a : Answer) (d : Call) → n < length calls → n < length answers →
      Made named w (take n calls) was answers u → Does named u (get_or calls n d) a v → Made named w (take (n + 1) calls) was (set answers n a) v
  one_more n answers u v a d low room m does =
      let e : Event = record { before = u; call = get_or calls n d; answer = a; after = v } in
      let long = length-take-le n calls (omega arith) in
      let longer = length-take-le (n + 1) calls (omega arith) in
      record {
        history = m.history ++ e ∷ [];
        each = map_push (λ (e : Event). e.call) m.history e ∙ ap (λ k. k ++ get_or calls n d ∷ []) m.each ∙ sym (take_more calls n d low);
        first =
            ap (λ k. take k (set answers n a)) longer ∙ take_more_set answers n a room
            ∙ ap (λ k. k ++ a ∷ []) (subst (λ k. take k answers ≡ answers_of m.history) long m.first)
            ∙ sym (map_push (λ (e : Event). e.answer) m.history e);
        rest =
            ap (λ k. drop k (set answers n a)) longer ∙ drop-set-lt (n + 1) answers n a (omega arith) ∙ sym (drop-drop 1 n answers)
            ∙ ap (drop 1) (subst (λ k. drop k answers ≡ drop k was) long m.rest) ∙ drop-drop 1 n was ∙ sym (ap (λ k. drop k was) longer);
        lived = lived_join named m.history (e ∷ []) w u v m.lived (refl, does, refl);
      }

  -- after the last call
  pub all_made : (n : ℕ) (answers : List Answer) (w' : World) → length calls ≤ length was → length calls ≤ n → Made named w (take n calls) was answers w' →
      Runs named w calls was (Ok tt) answers w'
  all_made n answers w' room end m =
      let whole : Made named w calls was answers w' = subst (λ k. Made named w k was answers w') (take_all n calls end) m in
      inr (room, refl, (whole, lives_on named w whole.history w' whole.lived))
