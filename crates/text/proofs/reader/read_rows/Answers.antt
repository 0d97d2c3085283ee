use Rattle.std.proofs.Common.{◌≡◌, arith}
use Rattle.text.proofs.Walking.{line_at, stopped, walked, ended}
use Rattle.text.proofs.reader.read_rows.Goals as goal

pub returns-in_default : goal.returns-in_default
returns-in_default c = rw (← c.values-n.ensures, c.loop-i.invariant.line)
    (stopped c.loop-i.invariant.walking (omega arith) c.key_at.ensures.0
    (line_at c.args.text.now c.loop-i.at c.key_at.result c.line_value.ensures c.in_default.is))

pub loop-i-preserved : goal.loop-i-preserved
loop-i-preserved c = record {
  line = omega arith;
  walking = walked c.loop-i.invariant.walking (omega arith) c.key_at.ensures.0
      (line_at c.args.text.now c.loop-i.at c.key_at.result c.line_value.ensures c.in-Ok.is);
}

pub returns : goal.returns
returns c = let inv = c.loop-i.invariant in
    let e : c.values-n.result ≡ c.loop-i.i = omega arith in
    record {
      given = rw (← c.values-n.ensures, inv.line) (ended inv.walking (omega arith));
      room = omega arith;
      within = inv.walking.within;
    }
