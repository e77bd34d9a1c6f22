-- Hexadecimal text, one digit, one pair and one space at a time.
use Rattle.std.proofs.Common.{◌≡◌, ℕ, ◌+◌, ◌*◌, ◌<◌, List, [], ◌∷◌, ◌++◌, length, get_or, drop, Some, None, Ok, Err, Option, Result, IfSome, IfOk, sym, refl, ap, ◌∙◌, append_assoc, add_assoc}
use Rattle.std.proofs.lemmas.List.{at_drop_more, drop_more, drop-drop}
use Rattle.std.proofs.lemmas.Bool.{cond-true, cond-false, eq-eqb, ne_eqb}
use Rattle.std.specs.Option.{ok_or}
use Rattle.inspect.specs.Fault.{and_then}
use Rattle.inspect.specs.Hex.{digit_at, pair_at, byte_first, hex_at}
use Rattle.inspect.specs.declared.fault.LineFault.{LineFault}

-- ---- a digit

pub digit_below : {P : Type 0} (o : Option ℕ) (f : LineFault) → P → IfSome o (λ d. d < 16) → IfOk (ok_or o f) (λ d. (d < 16) × P)
digit_below None f p h = tt
digit_below (Some d) f p h = (h, p)

-- ---- a pair

pub pair_low : (cs : List ℕ) (at high : ℕ) → Ok high ≡ digit_at at (drop at cs)
    → pair_at at (drop at cs) ≡ and_then (digit_at (at + 1) (drop (at + 1) cs)) (λ low. Ok (high * 16 + low))
pair_low cs at high e =
    ap (λ (r : Result ℕ LineFault). and_then r (λ h. and_then (digit_at (at + 1) (drop 1 (drop at cs))) (λ low. Ok (h * 16 + low)))) (sym e)
    ∙ ap (λ (ds : List ℕ). and_then (digit_at (at + 1) ds) (λ low. Ok (high * 16 + low))) (drop-drop 1 at cs)

pub pair_fault : (cs : List ℕ) (at high : ℕ) (f : LineFault) → Ok high ≡ digit_at at (drop at cs) → Err f ≡ digit_at (at + 1) (drop (at + 1) cs)
    → Err f ≡ pair_at at (drop at cs)
pair_fault cs at high f e l = sym (pair_low cs at high e ∙ ap (λ (r : Result ℕ LineFault). and_then r (λ low. Ok (high * 16 + low))) (sym l))

pub pair_read : (cs : List ℕ) (at high low : ℕ) → Ok high ≡ digit_at at (drop at cs) → Ok low ≡ digit_at (at + 1) (drop (at + 1) cs)
    → Ok (high * 16 + low) ≡ pair_at at (drop at cs)
pair_read cs at high low e l = sym (pair_low cs at high e ∙ ap (λ (r : Result ℕ LineFault). and_then r (λ low. Ok (high * 16 + low))) (sym l))

-- ---- the text

pub hex_space : (at c : ℕ) (cs : List ℕ) → c ≡ 32 → hex_at at (c ∷ cs) ≡ hex_at (at + 1) cs
hex_space at c [] e = cond-true _ _ _ (eq-eqb _ _ e)
hex_space at c (d ∷ ds) e = cond-true _ _ _ (eq-eqb _ _ e)

pub hex_pair : (at c : ℕ) (cs : List ℕ) → (c ≡ 32 → ⊥) → hex_at at (c ∷ cs) ≡ byte_first (pair_at at (c ∷ cs)) (hex_at (at + 2) (drop 1 cs))
hex_pair at c [] e = cond-false _ _ _ (ne_eqb _ _ e)
hex_pair at c (d ∷ ds) e = cond-false _ _ _ (ne_eqb _ _ e)

-- what a text comes to, after bytes that were read before it
abbrev pub after : List ℕ → Result (List ℕ) LineFault → Result (List ℕ) LineFault
after bs (Ok xs) = Ok (bs ++ xs)
after bs (Err f) = Err f

pub space_step : (cs : List ℕ) (at : ℕ) → at < length cs → get_or cs at 0 ≡ 32 → hex_at at (drop at cs) ≡ hex_at (at + 1) (drop (at + 1) cs)
space_step cs at h e = at_drop_more (hex_at at) cs at 0 h ∙ hex_space at _ _ e

pair_first : (cs : List ℕ) (at : ℕ) → at < length cs → (get_or cs at 0 ≡ 32 → ⊥)
    → hex_at at (drop at cs) ≡ byte_first (pair_at at (drop at cs)) (hex_at (at + 2) (drop (at + 2) cs))
pair_first cs at h e =
    at_drop_more (hex_at at) cs at 0 h ∙ hex_pair at _ _ e
    ∙ ap (λ (ds : List ℕ). byte_first (pair_at at ds) (hex_at (at + 2) (drop 1 (drop (at + 1) cs)))) (sym (drop_more cs at 0 h))
    ∙ ap (λ (ds : List ℕ). byte_first (pair_at at (drop at cs)) (hex_at (at + 2) ds)) (drop-drop 1 (at + 1) cs ∙ ap (λ (n : ℕ). drop n cs) (add_assoc at 1 1))

after_byte : (bs : List ℕ) (b : ℕ) (r : Result (List ℕ) LineFault) → after bs (byte_first (Ok b) r) ≡ after (bs ++ b ∷ []) r
after_byte bs b (Ok xs) = ap (λ (l : List ℕ). Ok l) (sym (append_assoc bs (b ∷ []) xs))
after_byte bs b (Err f) = refl

pub pair_step : (cs bs : List ℕ) (at b : ℕ) → at < length cs → (get_or cs at 0 ≡ 32 → ⊥) → Ok b ≡ pair_at at (drop at cs)
    → after bs (hex_at at (drop at cs)) ≡ after (bs ++ b ∷ []) (hex_at (at + 2) (drop (at + 2) cs))
pair_step cs bs at b h e p =
    ap (after bs) (pair_first cs at h e ∙ ap (λ (r : Result ℕ LineFault). byte_first r (hex_at (at + 2) (drop (at + 2) cs))) (sym p))
    ∙ after_byte bs b (hex_at (at + 2) (drop (at + 2) cs))

pub fault_step : (cs bs : List ℕ) (at : ℕ) (f : LineFault) → at < length cs → (get_or cs at 0 ≡ 32 → ⊥) → Err f ≡ pair_at at (drop at cs)
    → after bs (hex_at at (drop at cs)) ≡ Err f
fault_step cs bs at f h e p =
    ap (after bs) (pair_first cs at h e ∙ ap (λ (r : Result ℕ LineFault). byte_first r (hex_at (at + 2) (drop (at + 2) cs))) (sym p))
