-- What a plan within its bounds is known to be: the facts that the sums need.
use Rattle.std.specs.Prelude.{◌≡◌, Bool, true}
use Rattle.std.proofs.Common.{sym, ◌∙◌, arith}
use Rattle.rules.specs.Table.{Plan, owner}
use Rattle.rules.specs.Refusals.{plan_in_bounds}
use Rattle.laws.specs.Refusals.{bounds_rows, bounds_times}
use Rattle.sums.specs.Sums.{JobsIn, SectionsIn}

module _ (p : Plan) {b : Bool} (e : b ≡ plan_in_bounds p) (f : b ≡ true) where
  right : plan_in_bounds p ≡ true
  right = sym e ∙ f

  pub jobs_in : JobsIn p
  jobs_in =
      let (rows, pairs) = bounds_rows p right in
      record {
        few = rows.few_jobs;
        spans = record {
          pairs = omega arith;
          above = λ j l. omega (arith, (bounds_times p right j l).window, (rows.job_in j l).costs);
        };
        most = λ j l. omega (arith, (bounds_times p right j l).deadline_in);
        costs = λ j l. (rows.job_in j l).cost_in;
      }

  pub sections_in : SectionsIn p
  sections_in s l =
      let (rows, pairs) = bounds_rows p right in
      let h = rows.section_in s l in
      record {
        listed = l;
        owner_in = omega (arith, h.owner_in);
        resource_in = h.resource_in;
        begins = omega (arith, h.begins);
        short = omega (arith, h.fits, (rows.job_in (owner p.table s) h.owner_in).cost_in);
      }
