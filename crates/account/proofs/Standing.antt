-- What stands by the records, and by an account that says the same.
use Rattle.std.proofs.Common.{◌≡◌, ℕ, ◌<◌, not, List, [], Some, None, Option, is_some, ltb, refl, sym, ap, ◌∙◌}
use Rattle.std.specs.Option.{option_map}
use Rattle.std.proofs.lemmas.Bool.{cond-true, lt-ltb}
use Rattle.network.specs.declared.counts.Counts.{Counts}
use Rattle.network.specs.declared.step.Step.{Step}
use Rattle.records.specs.declared.circuit.Circuit.{Circuit}
use Rattle.records.specs.declared.circuit.Circuit.TheVariants as circuit
use Rattle.records.specs.declared.circuit.Route.{Route}
use Rattle.records.specs.Chains.{Channel, along, circuit_count, standing, route_of}
use Rattle.records.specs.Standing.{Standing, standing_of}
use Rattle.book.specs.State.{Tables}
use Rattle.book.specs.Changes.{circuit_in, path_in, standing_in}
use Rattle.book.specs.Refusing.{is_free, is_standing}
use Rattle.account.specs.Accounts.{Entry, Account, stands_by, standing_by, path_in_entry, path_by}

abbrev path_of_standing : Option Standing → List Step
path_of_standing None = []
path_of_standing (Some z) = z.path

along_standing : (n : Counts) (channels : List Channel) (r : Option Route) → along n channels r ≡ path_of_standing (standing_of n channels r)
along_standing n channels None = refl
along_standing n channels (Some r) = refl

path_entry : (z : Option Entry) → path_in_entry z ≡ path_of_standing (option_map (λ z. z.standing) z)
path_entry None = refl
path_entry (Some z) = refl

-- the path is the same
pub same_path : (n : Counts) (x : Tables) (a : Account) (c : ℕ) → standing_in n x c ≡ standing_by a c → path_in n x c ≡ path_by a c
same_path n x a c e = along_standing n x.channels (route_of x.circuits c) ∙ ap path_of_standing e ∙ sym (path_entry (a.entry c))

some_standing : (n : Counts) (channels : List Channel) (r : Option Route) → is_some r ≡ is_some (standing_of n channels r)
some_standing n channels None = refl
some_standing n channels (Some r) = refl

some_entry : (z : Option Entry) → is_some z ≡ is_some (option_map (λ z. z.standing) z)
some_entry None = refl
some_entry (Some z) = refl

-- a circuit of the book stands or not
pub same_stands : (n : Counts) (x : Tables) (a : Account) (c : ℕ) → c < circuit_count → standing_in n x c ≡ standing_by a c → is_standing (circuit_in x c) ≡ stands_by a c
same_stands n x a c h e =
    ap is_some (sym (cond-true (ltb c circuit_count) (standing (circuit_in x c)) None (lt-ltb c circuit_count h)))
    ∙ some_standing n x.channels (route_of x.circuits c) ∙ ap is_some e ∙ sym (some_entry (a.entry c))

free_stands : (k : Circuit) → is_free k ≡ not (is_standing k)
free_stands circuit.Free = refl
free_stands (circuit.Offered r) = refl
free_stands (circuit.Lit r) = refl

pub same_free : (n : Counts) (x : Tables) (a : Account) (c : ℕ) → c < circuit_count → standing_in n x c ≡ standing_by a c → is_free (circuit_in x c) ≡ not (stands_by a c)
same_free n x a c h e = free_stands (circuit_in x c) ∙ ap not (same_stands n x a c h e)
