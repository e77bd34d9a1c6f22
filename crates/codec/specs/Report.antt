-- What each fault is told as: the cause with its number, the place and the layer; assumes nothing.
use Rattle.std.specs.Prelude.{ℕ}
use Rattle.codec.specs.declared.number.NumberCause.{NumberCause}
use Rattle.codec.specs.declared.number.NumberCause.TheVariants as nc
use Rattle.codec.specs.declared.number.NumberFault.{NumberFault}
use Rattle.codec.specs.declared.ticket.TicketFault.{TicketFault}
use Rattle.codec.specs.declared.ticket.TicketFault.TheVariants as tf
use Rattle.codec.specs.declared.ticket_list.ListFault.{ListFault}
use Rattle.codec.specs.declared.ticket_list.ListFault.TheVariants as lf
use Rattle.codec.specs.declared.whole.WholeFault.{WholeFault}
use Rattle.codec.specs.declared.whole.WholeFault.TheVariants as wf
use Rattle.codec.specs.declared.report.Cause.{Cause}
use Rattle.codec.specs.declared.report.Cause.TheVariants as ca
use Rattle.codec.specs.declared.report.Layer.{Layer}
use Rattle.codec.specs.declared.report.Layer.TheVariants as la
use Rattle.codec.specs.declared.report.Report.{Report}

-- the numbers of the causes
abbrev pub cause_number : Cause → ℕ
cause_number ca.Ends = 1
cause_number ca.NotShortest = 2
cause_number ca.OutOfRange = 3
cause_number ca.OutOfOrder = 4
cause_number ca.Repeated = 5
cause_number ca.Spare = 6
cause_number ca.Mark = 7

abbrev pub told : Cause → ℕ → Layer → Report
told cause place layer = record { cause = cause; place = place; layer = layer }

abbrev pub number_cause : NumberCause → Cause
number_cause nc.Ends = ca.Ends
number_cause nc.NotShortest = ca.NotShortest

abbrev pub number_report : NumberFault → Report
number_report f = told (number_cause f.cause) f.place la.Number

abbrev pub ticket_report : TicketFault → Report
ticket_report (tf.Number f) = number_report f
ticket_report (tf.Range place) = told ca.OutOfRange place la.Ticket

abbrev pub list_report : ListFault → Report
list_report (lf.Number f) = number_report f
list_report (lf.Ticket f) = ticket_report f
list_report (lf.Count place) = told ca.OutOfRange place la.List
list_report (lf.Order place) = told ca.OutOfOrder place la.List
list_report (lf.Repeated place) = told ca.Repeated place la.List

abbrev pub whole_report : WholeFault → Report
whole_report (wf.Number f) = number_report f
whole_report (wf.List f) = list_report f
whole_report wf.Short = told ca.Ends 0 la.Whole
whole_report wf.Mark = told ca.Mark 0 la.Whole
whole_report (wf.Head place) = told ca.OutOfRange place la.Whole
whole_report (wf.Spare place) = told ca.Spare place la.Whole
