use Rattle.std.proofs.Common.{ap, rules}
use mir.Val.{SFits}
use mir.Syntax.{w32}
use Rattle.std.proofs.lemmas.Int.{to_z-of_z}
use Rattle.qtc_job_file.specs.Canonical.{names_of}
use Rattle.qtc_job_file.specs.declared.jobs.ChainOp.TheVariants as chain
use Rattle.qtc_job.specs.declared.statements.Statement.TheVariants as says
use Rattle.qtc_job.proofs.statements.read_statement.Goals as goal

pub returns-in-Watch : goal.returns-in-Watch
returns-in-Watch c = rw c.in-Watch.is (c.read_bare.ensures (names_of c.args.jobs.now.jobs.now))

pub returns-in-Ok : goal.returns-in-Ok
returns-in-Ok c = let e = c.in-Ok.ensures in rw c.in-Input.is (e.0, ap says.Input e.1)

pub returns-in-Err : goal.returns-in-Err
returns-in-Err c = rw c.in-Input.is c.in-Err.ensures

pub returns-in-Ok-read_map : goal.returns-in-Ok-read_map
returns-in-Ok-read_map c = let e = c.in-Ok-read_map.ensures _ in rw c.in-Map.is (e.0, ap says.Map e.1)

pub returns-in-Err-read_map : goal.returns-in-Err-read_map
returns-in-Err-read_map c = rw c.in-Map.is (c.in-Err-read_map.ensures _)

pub returns-in-Ok-read_filter : goal.returns-in-Ok-read_filter
returns-in-Ok-read_filter c = let e = c.in-Ok-read_filter.ensures _ in rw c.in-Filter.is (e.0, ap says.Filter e.1)

pub returns-in-Err-read_filter : goal.returns-in-Err-read_filter
returns-in-Err-read_filter c = rw c.in-Filter.is (c.in-Err-read_filter.ensures _)

pub returns-in-Ok-read_fold : goal.returns-in-Ok-read_fold
returns-in-Ok-read_fold c = let e = c.in-Ok-read_fold.ensures _ in rw c.in-Reduce.is (e.0, ap says.Reduce e.1)

pub returns-in-Err-read_fold : goal.returns-in-Err-read_fold
returns-in-Err-read_fold c = rw c.in-Reduce.is (c.in-Err-read_fold.ensures _)

pub returns-in-Ok-read_order : goal.returns-in-Ok-read_order
returns-in-Ok-read_order c = let e = c.in-Ok-read_order.ensures _ in rw c.in-Order.is (e.0, ap says.Order e.1)

pub returns-in-Err-read_order : goal.returns-in-Err-read_order
returns-in-Err-read_order c = rw c.in-Order.is (c.in-Err-read_order.ensures _)

pub returns-in-Ok-read_blocks : goal.returns-in-Ok-read_blocks
returns-in-Ok-read_blocks c = let e = c.in-Ok-read_blocks.ensures _ in rw c.in-Blocks.is (e.0, ap says.Blocks e.1)

pub returns-in-Err-read_blocks : goal.returns-in-Err-read_blocks
returns-in-Err-read_blocks c = rw c.in-Blocks.is (c.in-Err-read_blocks.ensures _)

pub returns-in-Ok-read_priority : goal.returns-in-Ok-read_priority
returns-in-Ok-read_priority c =
    let e = c.in-Ok-read_priority.ensures (names_of c.args.jobs.now.jobs.now) in
    let fits : SFits w32 c.in-Ok-read_priority.value = search rules in
    rw c.in-Priority.is (e.0, simp to_z-of_z (ap says.Priority e.1))

pub returns-in-Err-read_priority : goal.returns-in-Err-read_priority
returns-in-Err-read_priority c = rw c.in-Priority.is (c.in-Err-read_priority.ensures _)

pub returns-in-Ok-read_number : goal.returns-in-Ok-read_number
returns-in-Ok-read_number c = let e = c.in-Ok-read_number.ensures _ in rw c.in-CancelAfter.is (e.0, ap says.CancelAfter e.1)

pub returns-in-Err-read_number : goal.returns-in-Err-read_number
returns-in-Err-read_number c = rw c.in-CancelAfter.is (c.in-Err-read_number.ensures _)

pub returns-in-Ok-read_number-2 : goal.returns-in-Ok-read_number-2
returns-in-Ok-read_number-2 c = let e = c.in-Ok-read_number-2.ensures _ in rw c.in-SuspendAfter.is (e.0, ap says.SuspendAfter e.1)

pub returns-in-Err-read_number-2 : goal.returns-in-Err-read_number-2
returns-in-Err-read_number-2 c = rw c.in-SuspendAfter.is (c.in-Err-read_number-2.ensures _)

pub returns-in-Ok-read_list : goal.returns-in-Ok-read_list
returns-in-Ok-read_list c = let e = c.in-Ok-read_list.ensures _ in rw c.in-Then.is (e.0, ap (λ op. says.Chain (chain.Then op)) e.1)

pub returns-in-Err-read_list : goal.returns-in-Err-read_list
returns-in-Err-read_list c = rw c.in-Then.is (c.in-Err-read_list.ensures _)

pub returns-in-Ok-read_text : goal.returns-in-Ok-read_text
returns-in-Ok-read_text c = let e = c.in-Ok-read_text.ensures _ in rw c.in-OnFailed.is (e.0, ap (λ text. says.Chain (chain.OnFailed text)) e.1)

pub returns-in-Err-read_text : goal.returns-in-Err-read_text
returns-in-Err-read_text c = rw c.in-OnFailed.is (c.in-Err-read_text.ensures _)

pub returns-in-Ok-read_text-2 : goal.returns-in-Ok-read_text-2
returns-in-Ok-read_text-2 c = let e = c.in-Ok-read_text-2.ensures _ in rw c.in-OnCanceled.is (e.0, ap (λ text. says.Chain (chain.OnCanceled text)) e.1)

pub returns-in-Err-read_text-2 : goal.returns-in-Err-read_text-2
returns-in-Err-read_text-2 c = rw c.in-OnCanceled.is (c.in-Err-read_text-2.ensures _)
