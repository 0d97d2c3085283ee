use Rattle.std.proofs.Common.{◌≡◌, rules, sym, ◌∙◌, ap}
use Rattle.laws.specs.Ranges.{lowest_row}
use Rattle.modified.specs.Rounds.{short, window_found}
use Rattle.rules.specs.Refusals.{at_row}
use Rattle.rules.specs.Table.{job_count}
use Rattle.modified.proofs.judge_windows.Goals as goal
use Rattle.modified.proofs.judge_windows.Goals.{After-find}

found : (c : After-find) → let a = c.args in at_row 10 c.find.result ≡ window_found a.table.now a.releases.now a.tails.now
unfolding window_found
found c = let a = c.args in
    ap (at_row 10)
    (lowest_row (short a.table.now a.releases.now a.tails.now) (job_count a.table.now) _ c.find.ensures.ran (rw c.job_count.ensures) (λ x q k. search rules) (λ x q k. search rules))

pub returns-in-Some : goal.returns-in-Some
returns-in-Some c = ap (at_row 10) (sym c.in-Some.is) ∙ found (goal.at.returns-in-Some c).After-find

pub returns-in-None : goal.returns-in-None
returns-in-None c = ap (at_row 10) (sym c.in-None.is) ∙ found (goal.at.returns-in-None c).After-find
