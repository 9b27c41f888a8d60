-- The number, the place and the layer of every fault.
use Rattle.std.specs.Prelude.{ℕ}
use Rattle.fault.specs.declared.report.Report.{Report}
use Rattle.fault.specs.declared.report.Layer.{Layer}
use Rattle.fault.specs.declared.report.Layer.TheVariants as layer
use Rattle.fault.specs.declared.plan.RecordFault.{RecordFault}
use Rattle.fault.specs.declared.plan.RecordFault.TheVariants.{Channel, Span, Converter}
use Rattle.fault.specs.declared.plan.SectionFault.{SectionFault}
use Rattle.fault.specs.declared.plan.SectionFault.TheVariants.{Early, Length, Beyond, Record}
use Rattle.fault.specs.declared.plan.FileFault.{FileFault}
use Rattle.fault.specs.declared.plan.FileFault.TheVariants.{Size, Version, Value, Section}
use Rattle.fault.specs.declared.plan.LoadFault.{LoadFault}
use Rattle.fault.specs.declared.plan.LoadFault.TheVariants as load
use Rattle.fault.specs.declared.book.BookFault.{BookFault}
use Rattle.fault.specs.declared.book.BookFault.TheVariants.{LoadTable, BookTable, OtherCounts, NoCircuit, OtherBook, CircuitState, NoNode, SameNode, NoSpan, WorkTable, SlipBuffer, NoPath}
use Rattle.fault.specs.declared.label.LabelFault.{LabelFault}
use Rattle.fault.specs.declared.label.LabelFault.TheVariants.{Grid, Spacing, Identifier, Number}
use Rattle.fault.specs.declared.ticket.WordFault.{WordFault}
use Rattle.fault.specs.declared.ticket.WordFault.TheVariants.{Space, Foreign, Large}
use Rattle.fault.specs.declared.ticket.TicketFault.{TicketFault}
use Rattle.fault.specs.declared.ticket.TicketFault.TheVariants as ticket

abbrev pub report : ℕ → ℕ → Layer → Report
report n p l = record { number = n; place = p; layer = l }

abbrev pub of_record : RecordFault → Report
of_record (Channel at) = report 7 at layer.Record
of_record (Span at) = report 8 at layer.Record
of_record (Converter at) = report 9 at layer.Record

abbrev pub of_section : SectionFault → Report
of_section (Early at) = report 4 at layer.Section
of_section (Length at) = report 5 at layer.Section
of_section (Beyond at) = report 6 at layer.Section
of_section (Record f) = of_record f

abbrev pub of_file : FileFault → Report
of_file Size = report 1 0 layer.File
of_file Version = report 2 0 layer.File
of_file (Value at) = report 3 at layer.File
of_file (Section f) = of_section f

abbrev pub of_book : BookFault → Report
of_book LoadTable = report 10 0 layer.Book
of_book BookTable = report 11 0 layer.Book
of_book OtherCounts = report 20 0 layer.Book
of_book NoCircuit = report 21 0 layer.Book
of_book OtherBook = report 22 0 layer.Book
of_book CircuitState = report 23 0 layer.Book
of_book NoNode = report 24 0 layer.Book
of_book SameNode = report 25 0 layer.Book
of_book NoSpan = report 26 0 layer.Book
of_book WorkTable = report 27 0 layer.Book
of_book SlipBuffer = report 28 0 layer.Book
of_book NoPath = report 29 0 layer.Book

abbrev pub of_load : LoadFault → Report
of_load (load.File f) = of_file f
of_load (load.Book f) = of_book f

abbrev pub of_word : WordFault → Report
of_word (Space at) = report 13 at layer.Word
of_word (Foreign at) = report 14 at layer.Word
of_word (Large at) = report 15 at layer.Word

abbrev pub of_ticket : TicketFault → Report
of_ticket ticket.Length = report 12 0 layer.Ticket
of_ticket (ticket.Word f) = of_word f
of_ticket (ticket.Verb at) = report 16 at layer.Ticket
of_ticket (ticket.Count at) = report 17 at layer.Ticket
of_ticket (ticket.Sort at) = report 18 at layer.Ticket
of_ticket (ticket.Kind at) = report 19 at layer.Ticket

abbrev pub of_label : LabelFault → Report
of_label Grid = report 30 0 layer.Label
of_label Spacing = report 31 0 layer.Label
of_label Identifier = report 32 0 layer.Label
of_label Number = report 33 0 layer.Label
