-- The lines that are read are those of the grammar.
use Rattle.std.proofs.Common.{◌≡◌, ℕ, ◌+◌, ◌-◌, ◌*◌, ◌≤◌, Bool, true, false, cond, ◌&&◌, eqb, leb, List, [], ◌∷◌, get_or, drop, Some, None, Ok, Err, Option, Result, vec_items, sym, refl, ap, ◌∙◌, subst, inl, inr, arith}
use Rattle.std.proofs.lemmas.Bool.{cond-true, cond-false, eq-eqb, ne_eqb, eqb-true, leb-true, and_parts, cases_eq}
use Rattle.std.proofs.lemmas.Bool.Decides.{nat_tests}
use Rattle.std.specs.Option.{ok_or}
use Rattle.std.specs.Int.{is_in_range}
use Rattle.codec.specs.Chain.{map_ok}
use Rattle.inspect.specs.Fault.{and_then, Reads}
use Rattle.inspect.specs.Grammar.{Digit, Pairs, none, space, pair, letter, Asks, bare, full, ByGrammar}
use Rattle.inspect.specs.Hex.{digit_of, digit_at, pair_at, byte_first, hex_at}
use Rattle.inspect.specs.Line.{Asked, asked, form_of, beds_of, request_of}
use Rattle.inspect.specs.declared.fault.LineError.{LineError}
use Rattle.inspect.specs.declared.fault.LineError.TheVariants as le
use Rattle.inspect.specs.declared.fault.LineFault.{LineFault}
use Rattle.inspect.specs.declared.fault.LineFault.TheVariants as lf
use Rattle.inspect.specs.declared.line.Form.{Form}
use Rattle.inspect.specs.declared.line.Form.TheVariants as fo
use Rattle.inspect.specs.declared.line.Request.{Request}
use Rattle.inspect.proofs.HexSteps.{hex_space, hex_pair}

-- ---- a chain that came to its end

then_ok : {A B F : Type 0} (r : Result A F) (k : A → Result B F) (y : B) → and_then r k ≡ Ok y → (x : A) × (r ≡ Ok x) × (k x ≡ Ok y)
then_ok (Ok x) k y e = (x, refl, e)
then_ok (Err f) k y e = let z : ◌≡◌ {A = ℕ} 0 1 = cc in absurd (omega arith)

map_ok_lem : {A B F : Type 0} (g : A → B) (r : Result A F) (y : B) → map_ok g r ≡ Ok y → (x : A) × (r ≡ Ok x) × (g x ≡ y)
map_ok_lem g (Ok x) y e = (x, refl, cc)
map_ok_lem g (Err f) y e = let z : ◌≡◌ {A = ℕ} 0 1 = cc in absurd (omega arith)

-- ---- a digit

digit_read : (c v : ℕ) → Digit c v → digit_of c ≡ Some v
digit_read c v (inl h) = grind (arith, nat_tests)
digit_read c v (inr h) = elim h.2 [ inl e ↦ grind (arith, nat_tests) | inr e ↦ grind (arith, nat_tests) ]

digit_no_space : (c v : ℕ) → Digit c v → c ≡ 32 → ⊥
digit_no_space c v (inl h) e = omega arith
digit_no_space c v (inr h) e = elim h.2 [ inl d ↦ omega arith | inr d ↦ omega arith ]

within_bounds : (low high c : ℕ) → is_in_range low high c ≡ true → (low ≤ c) × (c ≤ high)
within_bounds low high c e = let p = and_parts (leb low c) (leb c high) e in (leb-true low c p.0, leb-true c high p.1)

digit_by : (c v : ℕ) (a b d : Bool) → is_in_range 48 57 c ≡ a → is_in_range 65 70 c ≡ b → is_in_range 97 102 c ≡ d
    → cond a (Some (c - 48)) (cond b (Some (c - 55)) (cond d (Some (c - 87)) None)) ≡ Some v → Digit c v
digit_by c v true b d ea eb ed e = let p = within_bounds 48 57 c ea in let k : c - 48 ≡ v = cc in inl (omega arith, omega arith)
digit_by c v false true d ea eb ed e = let p = within_bounds 65 70 c eb in let k : c - 55 ≡ v = cc in inr (omega arith, omega arith, inl (omega arith))
digit_by c v false false true ea eb ed e = let p = within_bounds 97 102 c ed in let k : c - 87 ≡ v = cc in inr (omega arith, omega arith, inr (omega arith))
digit_by c v false false false ea eb ed e = let z : ◌≡◌ {A = ℕ} 0 1 = cc in absurd (omega arith)

digit_is : (c v : ℕ) → digit_of c ≡ Some v → Digit c v
digit_is c v e = digit_by c v (is_in_range 48 57 c) (is_in_range 65 70 c) (is_in_range 97 102 c) refl refl refl e

-- ---- the text

digit_first : (at c v : ℕ) (cs : List ℕ) → Digit c v → digit_at at (c ∷ cs) ≡ Ok v
digit_first at c v cs d =
    cond-false _ _ _ (ne_eqb c 32 (digit_no_space c v d)) ∙ ap (λ (o : Option ℕ). ok_or o (lf.NotHex at)) (digit_read c v d)

pair_first : (at c d high low : ℕ) (cs : List ℕ) → Digit c high → Digit d low → pair_at at (c ∷ d ∷ cs) ≡ Ok (high * 16 + low)
pair_first at c d high low cs h l =
    ap (λ (r : Result ℕ LineFault). and_then r (λ x. and_then (digit_at (at + 1) (d ∷ cs)) (λ y. Ok (x * 16 + y)))) (digit_first at c high (d ∷ cs) h)
    ∙ ap (λ (r : Result ℕ LineFault). and_then r (λ y. Ok (high * 16 + y))) (digit_first (at + 1) d low cs l)

pub pairs_read : {cs bs : List ℕ} (at : ℕ) → Pairs cs bs → hex_at at cs ≡ Ok bs
pairs_read at none = refl
pairs_read at (space {cs = cs} p) = hex_space at 32 cs refl ∙ pairs_read (at + 1) p
pairs_read at (pair {c = c} {d = d} {high = high} {low = low} {cs = cs} {bs = bs} h l p) =
    hex_pair at c (d ∷ cs) (digit_no_space c high h)
    ∙ ap (λ (r : Result ℕ LineFault). byte_first r (hex_at (at + 2) cs)) (pair_first at c d high low cs h l)
    ∙ ap (λ (r : Result (List ℕ) LineFault). map_ok (λ xs. (high * 16 + low) ∷ xs) r) (pairs_read (at + 2) p)

-- a digit that was read, of which it is known that no space stands there
digit_back : (at c v : ℕ) (cs : List ℕ) → (c ≡ 32 → ⊥) → digit_at at (c ∷ cs) ≡ Ok v → Digit c v
digit_back at c v cs n e = digit_is c v (go (digit_of c) (sym (cond-false _ _ _ (ne_eqb c 32 n)) ∙ e))
  where
    go : (o : Option ℕ) → ok_or o (lf.NotHex at) ≡ Ok v → o ≡ Some v
    go None h = let z : ◌≡◌ {A = ℕ} 0 1 = cc in absurd (omega arith)
    go (Some x) h = cc

digit_no_gap : (at c v : ℕ) (cs : List ℕ) → digit_at at (c ∷ cs) ≡ Ok v → c ≡ 32 → ⊥
digit_no_gap at c v cs e s =
    let f : Err (lf.HalfPair at) ≡ Ok v = sym (cond-true _ _ _ (eq-eqb c 32 s)) ∙ e in
    let z : ◌≡◌ {A = ℕ} 0 1 = cc in omega arith

lone_digit : (at c b : ℕ) → pair_at at (c ∷ []) ≡ Ok b → ⊥
lone_digit at c b e =
    let p = then_ok (digit_at at (c ∷ [])) _ b e in
    let f : Err (lf.HalfPair (at + 1)) ≡ Ok b = p.2 in
    let z : ◌≡◌ {A = ℕ} 0 1 = cc in omega arith

pair_back : (at c d b : ℕ) (cs : List ℕ) → (c ≡ 32 → ⊥) → pair_at at (c ∷ d ∷ cs) ≡ Ok b
    → (high low : ℕ) × Digit c high × Digit d low × (high * 16 + low ≡ b)
pair_back at c d b cs n e =
    let p = then_ok (digit_at at (c ∷ d ∷ cs)) _ b e in
    let q = then_ok (digit_at (at + 1) (d ∷ cs)) _ b p.2 in
    (p.0, q.0, digit_back at c p.0 (d ∷ cs) n p.1, digit_back (at + 1) d q.0 cs (digit_no_gap (at + 1) d q.0 cs q.1) q.1, cc)

nothing_back : (bs : List ℕ) → hex_at 0 [] ≡ Ok bs → Pairs [] bs
nothing_back bs e = let k : [] ≡ bs = cc in subst (Pairs []) k none

space_back : (c : ℕ) (cs bs : List ℕ) → c ≡ 32 → Pairs cs bs → Pairs (c ∷ cs) bs
space_back c cs bs e p = subst (λ (x : ℕ). Pairs (x ∷ cs) bs) (sym e) (space p)

pub pairs_back : (at : ℕ) (cs bs : List ℕ) → hex_at at cs ≡ Ok bs → Pairs cs bs
pairs_back at [] bs e = nothing_back bs e
pairs_back at (c ∷ []) bs e = elim (cases_eq c 32) [
  | inl s ↦ space_back c [] bs s (nothing_back bs (sym (hex_space at c [] s) ∙ e))
  | inr n ↦ absurd (let p = then_ok (pair_at at (c ∷ [])) _ bs (sym (hex_pair at c [] n) ∙ e) in lone_digit at c p.0 p.1)
]
pairs_back at (c ∷ d ∷ ds) bs e = elim (cases_eq c 32) [
  | inl s ↦ space_back c (d ∷ ds) bs s (pairs_back (at + 1) (d ∷ ds) bs (sym (hex_space at c (d ∷ ds) s) ∙ e))
  | inr n ↦
      let p = then_ok (pair_at at (c ∷ d ∷ ds)) _ bs (sym (hex_pair at c (d ∷ ds) n) ∙ e) in
      let q = map_ok_lem _ (hex_at (at + 2) ds) bs p.2 in
      let k = pair_back at c d p.0 ds n p.1 in
      let whole : (k.0 * 16 + k.1) ∷ q.0 ≡ bs = cc in
      subst (Pairs (c ∷ d ∷ ds)) whole (pair k.2 k.3 (pairs_back (at + 2) ds q.0 q.1))
]

-- ---- the line

form_read : (form : Form) (cs : List ℕ) → form_of (letter form ∷ cs) ≡ Ok form
form_read fo.Batch cs = refl
form_read fo.Packet cs = refl

form_by : (c : ℕ) (form : Form) (a b : Bool) → eqb c 98 ≡ a → eqb c 112 ≡ b → cond a (Ok fo.Batch) (cond b (Ok fo.Packet) (Err lf.Letter)) ≡ Ok form → c ≡ letter form
form_by c form true b ea eb e = let k : fo.Batch ≡ form = cc in eqb-true c 98 ea ∙ ap letter k
form_by c form false true ea eb e = let k : fo.Packet ≡ form = cc in eqb-true c 112 eb ∙ ap letter k
form_by c form false false ea eb e = let z : ◌≡◌ {A = ℕ} 0 1 = cc in absurd (omega arith)

form_back : (c : ℕ) (cs : List ℕ) (form : Form) → form_of (c ∷ cs) ≡ Ok form → c ≡ letter form
form_back c cs form e = form_by c form (eqb c 98) (eqb c 112) refl refl e

-- what stands at the places of the space, of the digit, and behind it
pub record BedsAt (s d b n : ℕ) : Type 0 where
  pub gap : s ≡ 32
  pub digit : d ≡ 48 + n
  pub least : 1 ≤ n
  pub most : n ≤ 8
  pub behind : b ≡ 32

beds_by : (s d b n : ℕ) (x y : Bool) → (eqb s 32 && is_in_range 48 57 d) ≡ x → (is_in_range 49 56 d && eqb b 32) ≡ y
    → cond x (cond y (Ok (d - 48)) (Err lf.Beds)) (Err lf.NoBeds) ≡ Ok n → BedsAt s d b n
beds_by s d b n true true ex ey e =
    let p = and_parts (eqb s 32) (is_in_range 48 57 d) ex in
    let q = and_parts (is_in_range 49 56 d) (eqb b 32) ey in
    let w = within_bounds 49 56 d q.0 in
    let k : d - 48 ≡ n = cc in
    record { gap = eqb-true s 32 p.0; digit = omega arith; least = omega arith; most = omega arith; behind = eqb-true b 32 q.1 }
beds_by s d b n true false ex ey e = let z : ◌≡◌ {A = ℕ} 0 1 = cc in absurd (omega arith)
beds_by s d b n false y ex ey e = let z : ◌≡◌ {A = ℕ} 0 1 = cc in absurd (omega arith)

beds_back : (cs : List ℕ) (n : ℕ) → beds_of cs ≡ Ok n → BedsAt (get_or cs 1 0) (get_or cs 2 0) (get_or cs 3 32) n
beds_back cs n e = beds_by (get_or cs 1 0) (get_or cs 2 0) (get_or cs 3 32) n _ _ refl refl e

abbrev found : Form → ℕ → List ℕ → Asked
found form n bs = record { form = form; beds = n; bytes = bs }

-- the request of a line whose three parts are known
request_of_lem : (cs : List ℕ) (form : Form) (n : ℕ) (bs : List ℕ) → form_of cs ≡ Ok form → beds_of cs ≡ Ok n → hex_at 3 (drop 3 cs) ≡ Ok bs → request_of cs ≡ Ok (found form n bs)
request_of_lem cs form n bs f b h =
    ap (λ (r : Result Form LineFault). and_then r (λ x. and_then (beds_of cs) (λ y. and_then (hex_at 3 (drop 3 cs)) (λ z. Ok (found x y z))))) f
    ∙ ap (λ (r : Result ℕ LineFault). and_then r (λ y. and_then (hex_at 3 (drop 3 cs)) (λ z. Ok (found form y z)))) b
    ∙ ap (λ (r : Result (List ℕ) LineFault). and_then r (λ z. Ok (found form n z))) h

asks_read : {form : Form} {n : ℕ} {bs cs : List ℕ} → Asks form n bs cs → request_of cs ≡ Ok (found form n bs)
asks_read (bare {form = form} {n = n} l h) =
    request_of_lem (letter form ∷ 32 ∷ (48 + n) ∷ []) form n [] (form_read form (32 ∷ (48 + n) ∷ [])) (grind (arith, nat_tests)) refl
asks_read (full {form = form} {n = n} {cs = cs} {bs = bs} l h p) =
    request_of_lem (letter form ∷ 32 ∷ (48 + n) ∷ 32 ∷ cs) form n bs (form_read form (32 ∷ (48 + n) ∷ 32 ∷ cs)) (grind (arith, nat_tests)) (pairs_read 3 (space p))

-- a line of known characters
bare_at : (c s d n : ℕ) (form : Form) → c ≡ letter form → BedsAt s d 32 n → Asks form n [] (c ∷ s ∷ d ∷ [])
bare_at c s d n form e b =
    let k : letter form ∷ 32 ∷ (48 + n) ∷ [] ≡ c ∷ s ∷ d ∷ [] = cc in
    subst (Asks form n []) k (bare b.least b.most)

full_at : (c s d b n : ℕ) (form : Form) (cs bs : List ℕ) → c ≡ letter form → BedsAt s d b n → Pairs cs bs → Asks form n bs (c ∷ s ∷ d ∷ b ∷ cs)
full_at c s d b n form cs bs e w p =
    let k : letter form ∷ 32 ∷ (48 + n) ∷ 32 ∷ cs ≡ c ∷ s ∷ d ∷ b ∷ cs = cc in
    subst (Asks form n bs) k (full w.least w.most p)

parts_back : (cs : List ℕ) (form : Form) (n : ℕ) (bs : List ℕ) → form_of cs ≡ Ok form → beds_of cs ≡ Ok n → hex_at 3 (drop 3 cs) ≡ Ok bs → Asks form n bs cs
parts_back [] form n bs f b h = let z : ◌≡◌ {A = ℕ} 0 1 = cc in absurd (omega arith)
parts_back (c ∷ []) form n bs f b h = let w = beds_back (c ∷ []) n b in absurd (omega arith)
parts_back (c ∷ s ∷ []) form n bs f b h = let w = beds_back (c ∷ s ∷ []) n b in absurd (omega arith)
parts_back (c ∷ s ∷ d ∷ []) form n bs f b h =
    let w = beds_back (c ∷ s ∷ d ∷ []) n b in
    let k : [] ≡ bs = cc in
    subst (λ (x : List ℕ). Asks form n x (c ∷ s ∷ d ∷ [])) k (bare_at c s d n form (form_back c (s ∷ d ∷ []) form f) w)
parts_back (c ∷ s ∷ d ∷ e ∷ es) form n bs f b h =
    let w = beds_back (c ∷ s ∷ d ∷ e ∷ es) n b in
    full_at c s d e n form es bs (form_back c (s ∷ d ∷ e ∷ es) form f) w (pairs_back 4 es bs (sym (hex_space 3 e es w.behind) ∙ h))

pub asks_back : (cs : List ℕ) (form : Form) (n : ℕ) (bs : List ℕ) → request_of cs ≡ Ok (found form n bs) → Asks form n bs cs
asks_back cs form n bs e =
    let f = then_ok (form_of cs) _ (found form n bs) e in
    let b = then_ok (beds_of cs) _ (found form n bs) f.2 in
    let h = then_ok (hex_at 3 (drop 3 cs)) _ (found form n bs) b.2 in
    let k : found f.0 b.0 h.0 ≡ found form n bs = cc in
    subst (λ (x : Asked). Asks x.form x.beds x.bytes cs) k (parts_back cs f.0 b.0 h.0 f.1 b.1 h.1)

pub by_grammar : (r : Result Request LineError) (cs : List ℕ) → Reads asked r (request_of cs) → ByGrammar r cs
by_grammar (Ok q) cs e = asks_back cs q.form q.beds.count (vec_items q.bytes) e
by_grammar (Err (le.Fault f)) cs e = λ form n bs a. let k = asks_read a in let z : ◌≡◌ {A = ℕ} 0 1 = cc in omega arith
by_grammar (Err (le.Memory m)) cs e = tt
