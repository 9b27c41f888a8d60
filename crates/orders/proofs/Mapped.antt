-- What comes of an order, told in other words.
use Rattle.std.proofs.Common.{◌≡◌, ℕ, List, Option, sym, ◌∙◌}
use Rattle.fault.specs.declared.book.BookFault.{BookFault}
use Rattle.fault.specs.declared.book.BookFault.TheVariants.{NoPath}
use Rattle.network.specs.declared.step.Step.{Step}
use Rattle.cost.specs.Laws.{Ops}
use Rattle.semilightpath.specs.Scenes.{Scene}
use Rattle.orders.specs.Orders.{Ordered, is_refused, has_none, is_found}

pub ordered_map : {V : Type 0} (o : Ops V) (g : Scene) (s t : ℕ) (due due' : Option BookFault) (P P' : List Step → V → Type 0) (R R' : BookFault → Type 0) → due ≡ due' → ((p : List Step) (v : V) → P p v → P' p v) → ((f : BookFault) → R f → R' f) → Ordered o g s t due P R → Ordered o g s t due' P' R'
ordered_map o g s t due due' P P' R R' e found refused (is_refused f d r) = is_refused f (sym e ∙ d) (refused f r)
ordered_map o g s t due due' P P' R R' e found refused (has_none d none r) = has_none (sym e ∙ d) none (refused NoPath r)
ordered_map o g s t due due' P P' R R' e found refused (is_found d p v best r) = is_found (sym e ∙ d) p v best (found p v r)
