use Rattle.std.proofs.Common.{◌≡◌, ◌+◌, ◌≤◌, take, length, arith}
use Rattle.std.proofs.lemmas.Grind.{common_steps}
use Rattle.qtc_outside.proofs.LoadingLemmas.{tail-cut, reads-on}
use Rattle.qtc_outside.proofs.loading.read_piece.Goals as goal

pub returns-in-Ok-clause-ok : goal.returns-in-Ok-clause-ok
returns-in-Ok-clause-ok g c =
    let read = c.in-Ok.ensures.ok in
    let within = read.within in
    let len : c.len-before.result ≡ length c.args.text.now.items = grind (arith, common_steps) in
    let front : take c.len-before.result c.deref_mut.result.now ≡ c.args.text.now.items = grind (arith, common_steps) in
    let fits : length c.args.text.now.items + c.in-Ok.count ≤ c.resize.new.self.len = grind (arith, common_steps) in
    reads-on _ _ _ _ _ _ read (tail-cut c.args.text.now.items c.read.new.into _ _ _ c.in-Ok.count _ within fits (rw (front, len) at c.truncate.ensures.items))
