use Rattle.std.proofs.Common.{◌≡◌, ◌+◌, ◌-◌, take, drop, arith}
use Rattle.qtc_base.specs.Escape.{escaped}
use Rattle.qtc_base.proofs.EscapeLemmas.{plain-two}
use Rattle.qtc_base.proofs.escaping.plain_blocks.Goals as goal

pub loop-len-preserved : goal.loop-len-preserved
loop-len-preserved c =
    let width : c.loop-len.len + 32 - c.loop-len.len ≡ 32 = omega arith in
    let block : escaped (take 32 (drop c.loop-len.len c.args.raw.now)) ≡ take 32 (drop c.loop-len.len c.args.raw.now) = rw width at (c.is_all_plain.ensures c.if-is_all_plain.true) in
    record {
      within = omega arith;
      plain = plain-two c.args.raw.now c.loop-len.len 32 c.loop-len.invariant.plain block;
    }
