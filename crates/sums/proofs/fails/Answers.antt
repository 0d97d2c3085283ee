-- The parts make up the sum of the rules, which the multiple is compared with.
use Rattle.sums.specs.Sums.{shares_sum, fails_are}
use Rattle.sums.proofs.fails.Goals as goal

pub returns : goal.returns
returns c = fails_are c.args.plan.now c.args.m c.args.j _ _ _ _ _ c.span-d.ensures c.blocking-b.ensures.0
    (shares_sum c.args.plan.now c.args.m c.args.j _ _ _ c.requires.2 c.sum_to.ensures.0) c.share.ensures.0 c.from.ensures
