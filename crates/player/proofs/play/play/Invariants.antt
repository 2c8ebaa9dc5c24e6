use Rattle.std.proofs.Common.{drop}
use Rattle.group.specs.Does.{rules, state, Stays}
use Rattle.player.specs.Playing.{playing}
use Rattle.player.proofs.Playing.{Alike}
use Rattle.player.proofs.play.play.Given as goal

-- all orders played from the entry on come to the same as those that are left
abbrev pub invariant-loop-place : goal.invariant-loop-place
invariant-loop-place g l =
    let R = rules l.initial.group l.initial.log in
    Alike (playing R 0 l.all (state l.initial.group l.initial.log)) (playing R l.place-counter (drop l.place-counter l.all) (state l.group l.log))
    × Stays l.initial.group l.group l.initial.log l.log
