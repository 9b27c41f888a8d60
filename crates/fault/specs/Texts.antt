-- How a report is printed.
use Rattle.std.specs.Prelude.{ℕ, List, ◌++◌, codes, decimal}
use Rattle.fault.specs.declared.report.Report.{Report}
use Rattle.fault.specs.declared.report.Layer.{Layer}
use Rattle.fault.specs.declared.report.Layer.TheVariants as layer

abbrev pub layer_text : Layer → List ℕ
layer_text layer.File = codes "file"
layer_text layer.Section = codes "section"
layer_text layer.Record = codes "record"
layer_text layer.Word = codes "word"
layer_text layer.Ticket = codes "ticket"
layer_text layer.Book = codes "book"
layer_text layer.Label = codes "label"

-- a fault's number and its place
abbrev pub report_text : Report → List ℕ
report_text r = decimal r.number ++ (codes " " ++ decimal r.place)
