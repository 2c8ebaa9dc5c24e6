-- The number of each kind of group, and the kind of each number.
use Rattle.std.specs.Prelude.{ℕ, cond, Some, None, Option, ◌==◌}
use Rattle.protocol.specs.declared.kind.GroupKind.{GroupKind}
use Rattle.protocol.specs.declared.kind.GroupKind.TheVariants.{Closed, Expanding, Dynamic}
use Rattle.protocol.specs.declared.kind.UnknownKind.{UnknownKind}

abbrev pub group_number : GroupKind → ℕ
group_number Closed = 1
group_number Expanding = 2
group_number Dynamic = 3

abbrev pub group_kind : ℕ → Option GroupKind
group_kind b =
    cond (b == 1) (Some Closed)
    (cond (b == 2) (Some Expanding)
    (cond (b == 3) (Some Dynamic) None))

-- 16: is the kind a known value?
abbrev pub unknown_number : UnknownKind → ℕ
unknown_number u = 16
