-- A line's value by the stages of reading it: its key, its number, its LF.
use mathlib.Core.Path.{◌∙◌, ap}
use mathlib.Core.List.{List}
use Prim.Native.Nat.{ℕ, ◌+◌}
use native.Mathlib.Omega.{arith}
use lib.ListN.{drop, length-drop}
use lib.Seq.{drop-drop}
use Rattle.rules.specs.Text.{wrong, number, line_value}
use Rattle.std.specs.Prelude.{Result, Ok, Err}
use Rattle.lines.specs.declared.leaves.Stopped.{Stopped}
use Rattle.lines.specs.declared.leaves.Found.{Found}
use Rattle.lines.specs.Leaves.{Matched, Took, LineEnds}

module _ {k t : List ℕ} where
  pub key-stops : {s : Stopped} → Matched k t (Err s) → Took (line_value k t) t (Err s)
  unfolding line_value
  key-stops m = record { within = m.within; says = m.says _ }

  module _ {n : ℕ} (m : Matched k t (Ok n)) where
    pub number-stops : {s : Stopped} → Took (number (drop n t)) (drop n t) (Err s) → Took (line_value k t) t (Err record { 0 = n + s.0 })
    unfolding line_value
    number-stops {s} d =
        record {
          within = omega (arith, m.within, d.within, length-drop n t);
          says = m.says _ ∙ rw d.says (ap wrong (drop-drop s.0 n t));
        }

    pub line_ended : {f : Found ℕ} {r : Result (Found ℕ) Stopped} → Took (number (drop n t)) (drop n t) (Ok f) → LineEnds t f.value (n + f.end) r
        → Took (line_value k t) t r
    unfolding line_value
    line_ended {f} {r} d l =
        record { within = l.within; says = m.says _ ∙ rw (d.says, drop-drop f.end n t) l.says }
