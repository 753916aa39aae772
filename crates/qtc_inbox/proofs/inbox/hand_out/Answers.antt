use Rattle.std.proofs.Common.{◌≡◌, ◌-◌, length, ap, rules, arith}
use Rattle.qtc_inbox.proofs.inbox.hand_out.Goals as goal

pub loop-made-init : goal.loop-made-init
loop-made-init g c =
    let passes = c.args.passes.items in
    let has = c.args.place.now.has in
    let none : has.parts ≡ has.parts - (length passes - length passes) = omega arith in
    record {
      line = c.requires.of;
      few = omega arith;
      has = ap (λ parts. record has { parts = parts }) none;
      all = search rules;
      room = search rules;
    }
