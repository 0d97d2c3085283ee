-- `lines::leaves::read_pairs` meets its contract: so many digits stand for less than that power of ten.
use Rattle.std.proofs.Common.{◌-◌, ◌^◌, ◌<◌}
use Rattle.lines.specs.Leaves.{Counting}
use Rattle.lines.proofs.leaves.read_pairs.Given as goal

abbrev pub invariant-loop-end : goal.invariant-loop-end
invariant-loop-end l = record {
  positive : 0 < l.value;
  few : l.value < 10 ^ l.end;
  counting : Counting l.digits l.value l.end;
}

abbrev pub decreases-loop-end : goal.decreases-loop-end
decreases-loop-end l = l.most - l.end
