use Rattle.std.proofs.Common.{◌≡◌, ◌∙◌, List, ℕ, [], ◌∷◌, ◌++◌, OnOk, ap, subst}
use Rattle.std.proofs.lemmas.Fmt.{contents_after_writes}
use Rattle.std.specs.Io.KnownBytes.{Appends}
use Rattle.arrayvec.specs.declared.array_string.ArrayString.{ArrayString}
use Rattle.fault.specs.Reports.{of_load}
use Rattle.fault.specs.declared.report.Report.{Report}
use Rattle.desk.specs.Replies.{no_plan}
use Rattle.station.proofs.conversing.refuse.Goals as goal

pub returns-in-Ok : goal.returns-in-Ok
returns-in-Ok g c =
    let w = c.in-Ok.ensures.writes in
    let n = c.new-line.ensures in
    let r = c.report-report.ensures in
    let e : c.as_bytes.result.now ≡ no_plan (of_load c.args.fault) ++ 10 ∷ [] =
    c.as_bytes.ensures.value
    ∙ c.as_str.ensures.value
    ∙ contents_after_writes _ (λ (s : ArrayString 30). s.bytes) (λ s bs t h. h) _ _ _ w
    ∙ ap (λ (bs : List ℕ). bs ++ (no_plan c.report-report.result ++ 10 ∷ [])) n
    ∙ ap (λ (x : Report). no_plan x ++ 10 ∷ []) r in
    subst (λ (b : List ℕ). OnOk c.write_all.result (Appends (g.W.Write.contents c.args.output.now) (g.W.Write.contents c.write_all.new.self) b)) e c.write_all.ensures.bytes
