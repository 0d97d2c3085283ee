-- One word for a stale mark, another for the rest.
use Rattle.page.specs.Page.{stale_word, fresh_word}
use Rattle.rules.specs.Text.{bytes_of}
use Rattle.page.proofs.Page.put_mark.Goals as goal

pub returns-then-stale-clause-written : goal.returns-then-stale-clause-written
unfolding bytes_of
returns-then-stale-clause-written c = rw (stale_word c.args.mark c.if-stale.true) c.put.ensures

pub returns-else-stale-clause-written : goal.returns-else-stale-clause-written
unfolding bytes_of
returns-else-stale-clause-written c = rw (fresh_word c.args.mark c.if-stale.false) c.put-else-stale.ensures
