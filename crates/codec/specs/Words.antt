-- What is said of a fault in the bytes, in a few words; assumes nothing.
use Rattle.std.specs.Prelude.{ℕ, List, codes}
use Rattle.codec.specs.declared.number.NumberCause.{NumberCause}
use Rattle.codec.specs.declared.number.NumberCause.TheVariants as nc
use Rattle.codec.specs.declared.report.Layer.{Layer}
use Rattle.codec.specs.declared.report.Layer.TheVariants as la
use Rattle.codec.specs.declared.ticket.TicketFault.{TicketFault}
use Rattle.codec.specs.declared.ticket.TicketFault.TheVariants as tf
use Rattle.codec.specs.declared.ticket_list.ListFault.{ListFault}
use Rattle.codec.specs.declared.ticket_list.ListFault.TheVariants as lf
use Rattle.codec.specs.declared.whole.WholeFault.{WholeFault}
use Rattle.codec.specs.declared.whole.WholeFault.TheVariants as wf

abbrev pub layer_name : Layer → List ℕ
layer_name la.Number = codes "number"
layer_name la.Ticket = codes "ticket"
layer_name la.List = codes "list"
layer_name la.Whole = codes "whole"

abbrev pub number_words : NumberCause → List ℕ
number_words nc.Ends = codes "the bytes end before this number does"
number_words nc.NotShortest = codes "this number has a shorter form, or goes on past three bytes"

abbrev pub ticket_words : TicketFault → List ℕ
ticket_words (tf.Number f) = number_words f.cause
ticket_words (tf.Range place) = codes "this field of a ticket is out of its range"

abbrev pub list_words : ListFault → List ℕ
list_words (lf.Number f) = number_words f.cause
list_words (lf.Ticket f) = ticket_words f
list_words (lf.Count place) = codes "the count is above the most tickets that may come"
list_words (lf.Order place) = codes "this ticket does not stand after the one before it"
list_words (lf.Repeated place) = codes "an earlier ticket has the origin and number of this one"

abbrev pub fault_words : WholeFault → List ℕ
fault_words (wf.Number f) = number_words f.cause
fault_words (wf.List f) = list_words f
fault_words wf.Short = codes "the bytes end before the mark of a packet does"
fault_words wf.Mark = codes "the first four bytes are not the mark of a packet"
fault_words (wf.Head place) = codes "there is no such bed or round"
fault_words (wf.Spare place) = codes "bytes are left over after the last ticket"
