-- What is printed for a line: the parts of its bytes in turn, or what is wrong with it; assumes nothing.
use Rattle.std.specs.Prelude.{◌≡◌, ℕ, List, [], ◌∷◌, ◌++◌, length, Ok, Err, IfOk, String, string_bytes, codes, decimal, Result}
use Rattle.codec.specs.Reading.{Reading, head, ticket, ended, faulty, batch_reading, packet_reading}
use Rattle.codec.specs.Report.{cause_number, whole_report}
use Rattle.codec.specs.Words.{layer_name, fault_words}
use Rattle.codec.specs.declared.reader.Head.{Head}
use Rattle.codec.specs.declared.reader.Head.TheVariants as hd
use Rattle.codec.specs.declared.ticket.Ticket.{Ticket}
use Rattle.codec.specs.declared.whole.WholeFault.{WholeFault}
use Rattle.inspect.specs.Fault.{line_words}
use Rattle.inspect.specs.Line.{Asked, request_of}
use Rattle.inspect.specs.declared.fault.LineFault.{LineFault}
use Rattle.inspect.specs.declared.line.Form.{Form}
use Rattle.inspect.specs.declared.line.Form.TheVariants as fo

-- what is printed is a text, unless no memory was left for it
abbrev pub Prints : {Z E : Type 0} → Result (String Z) E → List ℕ → Type 0
Prints result text = IfOk result (λ s. string_bytes s ≡ text)

-- pieces of text in a row, and a line feed
abbrev pub row : List (List ℕ) → List ℕ
row [] = 10 ∷ []
row (x ∷ xs) = x ++ row xs

abbrev pub head_text : Head → List ℕ
head_text (hd.Batch count) = row (codes "head count " ∷ decimal count ∷ [])
head_text (hd.Packet bed round count) =
    row (codes "head bed " ∷ decimal bed ∷ codes " round " ∷ decimal round ∷ codes " count " ∷ decimal count ∷ [])

abbrev pub ticket_text : ℕ → Ticket → List ℕ
ticket_text offset t =
    row (codes "ticket at " ∷ decimal offset ∷ codes " paths " ∷ decimal t.paths ∷ codes " origin " ∷ decimal t.origin
    ∷ codes " number " ∷ decimal t.number ∷ codes " sheet " ∷ decimal t.sheet ∷ [])

abbrev pub end_text : ℕ → List ℕ
end_text len = row (codes "end at " ∷ decimal len ∷ [])

abbrev pub fault_text : WholeFault → List ℕ
fault_text f =
    row (codes "fault cause " ∷ decimal (cause_number (whole_report f).cause) ∷ codes " at " ∷ decimal (whole_report f).place
    ∷ codes " in " ∷ layer_name (whole_report f).layer ∷ codes ": " ∷ fault_words f ∷ [])

abbrev pub refusal_text : ℕ → LineFault → List ℕ
refusal_text n f = row (codes "line " ∷ decimal n ∷ codes ": " ∷ line_words f ∷ [])

-- the parts of so many bytes, one to a line
abbrev pub parts_text : ℕ → Reading → List ℕ
parts_text len (head h r) = head_text h ++ parts_text len r
parts_text len (ticket at bytes t r) = ticket_text at t ++ parts_text len r
parts_text len (ended at) = end_text len
parts_text len (faulty f) = fault_text f

abbrev pub reading_of : Form → ℕ → List ℕ → Reading
reading_of fo.Batch n bs = batch_reading n bs
reading_of fo.Packet n bs = packet_reading n bs

abbrev pub request_text : Asked → List ℕ
request_text q = parts_text (length q.bytes) (reading_of q.form q.beds q.bytes)

abbrev pub told : ℕ → Result Asked LineFault → List ℕ
told n (Ok q) = request_text q
told n (Err f) = refusal_text n f

-- the answer to the line of a number
abbrev pub answer_to : ℕ → List ℕ → List ℕ
answer_to n cs = told n (request_of cs)
