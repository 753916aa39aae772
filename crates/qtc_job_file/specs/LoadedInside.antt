-- How the texts lie in their table.
use Rattle.std.specs.Prelude.{map}
use Rattle.std.specs.Arc.{arc_value}
use Rattle.qtc_job_file.specs.Texts.{Texts}
use Rattle.qtc_job_file.specs.declared.loaded.Loaded.TheInside.{Inside}

-- the entries of the table, the names seen as lists of bytes, and each shared text as its bytes
abbrev pub seen_texts : Inside → Texts
seen_texts s = map (λ entry. (entry.0.items, arc_value entry.1)) s.texts.entries
