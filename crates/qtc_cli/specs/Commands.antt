-- The forms of the words, as the program keeps them. (Own.)
use Rattle.std.specs.Prelude.{◌≡◌, ℕ, List, Option, Some, None, IfSome}
use Rattle.qtc_cli.specs.declared.command_forms.Task.{Task}
use Rattle.qtc_cli.specs.declared.command_forms.Task.TheVariants.{Run, Check}
use Rattle.qtc_cli.specs.declared.command_forms.Command.{Command}
use Rattle.qtc_cli.specs.Forms.{Form, IsWorkerCount, run, check}

abbrev pub form_said : Task → List ℕ → Form
form_said (Run workers) job = run workers job
form_said Check job = check job

-- the command is that of the form
abbrev pub Says : Option Form → Option Command → Type 0
Says form None = form ≡ None
Says form (Some command) = form ≡ Some (form_said command.task command.job.now)

-- a number of workers is one that a run may have
abbrev pub HasWorkerCount : Task → Type 0
HasWorkerCount (Run workers) = IfSome workers IsWorkerCount
HasWorkerCount Check = Unit {0}
