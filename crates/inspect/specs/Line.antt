-- What a line asks for: a letter, a number of beds and pairs of hexadecimal digits; assumes nothing.
use Rattle.std.specs.Prelude.{ℕ, ◌-◌, cond, ◌&&◌, List, [], ◌∷◌, drop, Ok, Err, vec_items, Result, ◌==◌, slice_index, slice_index_or}
use Rattle.std.specs.Int.{is_in_range}
use Rattle.inspect.specs.Fault.{and_then}
use Rattle.inspect.specs.Hex.{hex_at}
use Rattle.inspect.specs.declared.fault.LineFault.{LineFault}
use Rattle.inspect.specs.declared.fault.LineFault.TheVariants as lf
use Rattle.inspect.specs.declared.line.Form.{Form}
use Rattle.inspect.specs.declared.line.Form.TheVariants as fo
use Rattle.inspect.specs.declared.line.Request.{Request}

-- a batch or a packet, the number of beds, and the bytes
pub record Asked : Type 0 where
  pub form : Form
  pub beds : ℕ
  pub bytes : List ℕ

abbrev pub asked : Request → Asked
asked q = record { form = q.form; beds = q.beds.count; bytes = vec_items q.bytes }

-- the letter, b or p
abbrev pub form_of : List ℕ → Result Form LineFault
form_of [] = Err lf.Empty
form_of (c ∷ cs) = cond (c == 98) (Ok fo.Batch) (cond (c == 112) (Ok fo.Packet) (Err lf.Letter))

-- a space and a digit after the letter; the digit is 1 to 8, and nothing or a space stands behind it
abbrev pub beds_of : List ℕ → Result ℕ LineFault
beds_of cs =
    cond (slice_index cs 1 == 32 && is_in_range 48 57 (slice_index cs 2))
    (cond (is_in_range 49 56 (slice_index cs 2) && slice_index_or cs 3 32 == 32) (Ok (slice_index cs 2 - 48)) (Err lf.Beds))
    (Err lf.NoBeds)

-- the first fault from left to right is that of the line
abbrev pub request_of : List ℕ → Result Asked LineFault
request_of cs =
    and_then (form_of cs) (λ form.
    and_then (beds_of cs) (λ beds.
    and_then (hex_at 3 (drop 3 cs)) (λ bytes.
    Ok (record { form = form; beds = beds; bytes = bytes }))))
