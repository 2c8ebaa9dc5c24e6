-- The numbers of a sound pace.
use Rattle.std.proofs.Common.{◌+◌, ◌*◌, ◌≤◌, sum, refl, add-one, arith}
use Rattle.std.proofs.lemmas.List.Sums.{sum_by-drop_more, sum_by-take-drop, get_or-le-sum_by}
use Rattle.protocol.specs.declared.kind.GroupKind.{GroupKind}
use Rattle.protocol.specs.declared.kind.GroupKind.TheVariants.{Closed, Expanding, Dynamic}
use Rattle.pace.specs.Meaning.{Meaning, Lawful}
use Rattle.protocol.specs.Rules.{trip, patience}
use Rattle.protocol.specs.Kept.{LawfulTerms, IsPatience, terms}

is_patience : (m : Meaning) (kind : GroupKind) → IsPatience kind (patience m kind) (m.tmax + sum m.waits) (trip m)
is_patience m Closed = omega arith
is_patience m Expanding = refl
is_patience m Dynamic = refl

-- the first wait is tmax
first_wait : (m : Meaning) → Lawful m → m.tmax ≤ sum m.waits
first_wait m h = omega (arith, h.first, get_or-le-sum_by (λ x. x) m.waits 0 0 h.some)

pub lawful : (m : Meaning) → Lawful m → (kind : GroupKind) → LawfulTerms (terms m kind) kind
lawful m h kind = record {
  low = h.low;
  ordered = h.ordered;
  some = h.some;
  takes_time = h.low;
  trip_within = omega arith;
  patience = is_patience m kind;
  first = first_wait m h;
  whole = refl;
  step = λ k below. rw (← add-one k) (sum_by-drop_more (λ x. x) m.waits k 0 below);
  part = λ k. omega (arith, sum_by-take-drop (λ x. x) m.waits k);
}

-- D is never less than 2 tmax
pub least_patience : (m : Meaning) → Lawful m → (kind : GroupKind) → 2 * m.tmax ≤ patience m kind
least_patience m h Closed = omega (arith, first_wait m h)
least_patience m h Expanding = omega (arith, first_wait m h)
least_patience m h Dynamic = omega (arith, first_wait m h)
