-- What 2 to 8 find is the answer, else what 9 finds. Where 2 to 7 find nothing, every arc names jobs below 64.
use Rattle.std.proofs.Common.{refl, arith}
use Rattle.std.proofs.lemmas.Result.{err_from_is_err_and}
use Rattle.cycles.specs.Chains.{cycles_are, cycles_ready}
use Rattle.rows.specs.Stages.{found_below}
use Rattle.cycles.proofs.judge_cycles.Goals as goal

pub returns-in_err-judge_clashes : goal.returns-in_err-judge_clashes
returns-in_err-judge_clashes c =
    let p = err_from_is_err_and c.from_residual.result c.from_residual.ensures.1 in
    rw (p.1, p.2) (cycles_are _ c.in_err-judge_clashes.ensures refl)

pub lowest_on_cycle-requires : goal.lowest_on_cycle-requires
lowest_on_cycle-requires c = let r = cycles_ready _ c.in_ok-judge_clashes.ensures in record { few = r.0; arcs_below = r.1 }

pub overflow_cast-result : goal.overflow_cast-result
overflow_cast-result c =
    omega (arith, cycles_ready _ c.in_ok-judge_clashes.ensures, found_below _ _ c.in-Some.ensures)

pub returns-in-Some : goal.returns-in-Some
returns-in-Some c = cycles_are _ c.in_ok-judge_clashes.ensures c.in-Some.ensures

pub returns-in-None : goal.returns-in-None
returns-in-None c = cycles_are _ c.in_ok-judge_clashes.ensures c.in-None.ensures
