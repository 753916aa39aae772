-- What may be wrong with a line of a job file: the codes that a user is told. (Own.)
use Rattle.std.specs.Prelude.{ℕ, Bool, true, false, not, ◌&&◌, ◌||◌, ◌==◌, nat_le, nat_lt, List, [], ◌∷◌, ◌++◌, length, slice_index_or, if◌then◌else◌}
use Rattle.std.specs.List.{list_any, flat_map, filter}
use Rattle.std.specs.Str.{bytes_eq}
use Rattle.qtc_job_file.specs.declared.keywords.Keyword.{Keyword}
use Rattle.qtc_job_file.specs.declared.keywords.Keyword.TheVariants as word
use Rattle.qtc_base.specs.Limits.{most_jobs, most_chain}
use Rattle.qtc_job.specs.Lines.{Line, too_long, silent, unknown, workers, job, says, is_workers, is_job, begins}
use Rattle.qtc_job.specs.Literals.{is_literal, is_numeral, is_within, unsigned, is_priority}
use Rattle.qtc_job_file.specs.Names.{is_name}
use Rattle.qtc_job.specs.Forms.{Form, none, early, exactly, up_to, Place, number, priority, literal, name, earlier, placed, directive_form, workers_form, job_form}

-- the code, where its row holds
abbrev pub where_ : Bool → ℕ → List ℕ
where_ row code = if row then code ∷ [] else []

-- ---- what the words of the line tell

-- 1: a word isn't in its list
abbrev pub is_unknown : Form → Bool
is_unknown none = true
is_unknown _ = false

-- 2: the line ends before its form does
abbrev pub ends_early : Form → Bool
ends_early early = true
ends_early (exactly places args) = nat_lt (length args) (length places)
ends_early (up_to most place args) = length args == 0
ends_early _ = false

-- 3: a word that must be a number isn't spelled as one
abbrev pub is_no_number : Place → List ℕ → Bool
is_no_number (number least most) word = not (is_numeral word)
is_no_number priority word = not (is_numeral (unsigned word))
is_no_number _ word = false

-- 4: a number is outside its range
abbrev pub is_out_of_range : Place → List ℕ → Bool
is_out_of_range (number least most) word = is_numeral word && not (is_within least most word)
is_out_of_range priority word = is_numeral (unsigned word) && not (is_priority word)
is_out_of_range _ word = false

-- 6: a word in the place of an earlier job names none of those
abbrev pub names_no_job : List (List ℕ) → Place → List ℕ → Bool
names_no_job names earlier word = not (list_any (bytes_eq word) names)
names_no_job names _ word = false

-- 13: it has more words than its form
abbrev pub has_more_words : Form → Bool
has_more_words (exactly places args) = nat_lt (length places) (length args)
has_more_words (up_to most place args) = nat_lt most (length args)
has_more_words _ = false

-- 14: a literal or name of a text has a raw byte below 0x20, a raw 0x7f, or a \ that doesn't begin \xHH
abbrev pub is_no_literal : Place → List ℕ → Bool
is_no_literal literal word = not (is_literal word)
is_no_literal _ word = false

-- 15: the name of a job isn't spelled as one
abbrev pub is_no_name : Place → List ℕ → Bool
is_no_name name word = not (is_name word)
is_no_name _ word = false

abbrev pub word_codes : List (List ℕ) → Place → List ℕ → List ℕ
word_codes names place word =
    where_ (is_no_number place word) 3 ++ (where_ (is_out_of_range place word) 4 ++ (where_ (names_no_job names place word) 6
    ++ (where_ (is_no_literal place word) 14 ++ where_ (is_no_name place word) 15)))

-- the codes of the words after the directive, where these are the names of the earlier jobs
abbrev pub form_codes : List (List ℕ) → Form → List ℕ
form_codes names form =
    where_ (is_unknown form) 1 ++ (where_ (ends_early form) 2
    ++ (flat_map (λ p. word_codes names p.0 p.1) (placed form) ++ where_ (has_more_words form) 13))

-- ---- what the lines above it tell; they stand nearest first

-- the lines above it in its job
abbrev pub own_above : List Line → List Line
own_above [] = []
own_above (line ∷ above) = if is_job line then [] else own_above above ++ line ∷ []

-- the name that a job line gives
abbrev pub name_of : List (List ℕ) → List ℕ
name_of args = slice_index_or args 0 []

-- the names that the job lines above give, in the order of the file
abbrev pub names_above : List Line → List (List ℕ)
names_above [] = []
names_above (job args ∷ above) = names_above above ++ name_of args ∷ []
names_above (_ ∷ above) = names_above above

-- those above the line of its own job: none where it stands in no job
abbrev pub earlier_names : List Line → List (List ℕ)
earlier_names [] = []
earlier_names (job args ∷ above) = names_above above
earlier_names (_ ∷ above) = earlier_names above

abbrev pub is_in_job : List Line → Bool
is_in_job above = list_any is_job above

-- a directive that may stand once in a job
abbrev pub is_single : Keyword → Bool
is_single word.Then = false
is_single word.OnFailed = false
is_single word.OnCanceled = false
is_single _ = true

-- 5: its directive may stand once in a job and stands above it in the same job, or it is a second workers line
abbrev pub is_repeated : List Line → Line → Bool
is_repeated above (workers args) = list_any is_workers above
is_repeated above (says directive args) = is_single directive && (is_in_job above && list_any (begins directive) (own_above above))
is_repeated above _ = false

-- 7: a job line repeats the name of a job line above
abbrev pub repeats_a_name : List Line → Line → Bool
repeats_a_name above (job args) = nat_lt 0 (length args) && list_any (bytes_eq (name_of args)) (names_above above)
repeats_a_name above _ = false

-- 12: it is the 65th job line or a later one
abbrev pub is_a_job_too_many : List Line → Line → Bool
is_a_job_too_many above (job args) = nat_le most_jobs (length (names_above above))
is_a_job_too_many above _ = false

-- 16: a directive other than workers and job stands before the first job line, or workers after one
abbrev pub is_misplaced : List Line → Line → Bool
is_misplaced above (workers args) = is_in_job above
is_misplaced above (says directive args) = not (is_in_job above)
is_misplaced above _ = false

abbrev pub is_chain : Line → Bool
is_chain (says word.Then args) = true
is_chain (says word.OnFailed args) = true
is_chain (says word.OnCanceled args) = true
is_chain _ = false

-- 17: it is the ninth line of its job's chain or a later one
abbrev pub is_chained_too_late : List Line → Line → Bool
is_chained_too_late above line = is_chain line && (is_in_job above && nat_le most_chain (length (filter is_chain (own_above above))))

abbrev pub above_codes : List Line → Line → List ℕ
above_codes above line =
    where_ (is_repeated above line) 5 ++ (where_ (repeats_a_name above line) 7 ++ (where_ (is_a_job_too_many above line) 12
    ++ (where_ (is_misplaced above line) 16 ++ where_ (is_chained_too_late above line) 17)))

-- ---- what the lines of its job tell of a job line

-- the lines up to the next job line
abbrev pub own_below : List Line → List Line
own_below [] = []
own_below (line ∷ below) = if is_job line then [] else line ∷ own_below below

-- whether a line of the job begins with the word
abbrev pub stands : Keyword → List Line → Bool
stands keyword own = list_any (begins keyword) own

-- 8: no line of the job begins with input
abbrev pub lacks_input : List Line → Bool
lacks_input own = not (stands word.Input own)

-- 9: lines of the job begin with map and with filter, or neither
abbrev pub lacks_one_function : List Line → Bool
lacks_one_function own = (stands word.Map own && stands word.Filter own) || (not (stands word.Map own) && not (stands word.Filter own))

-- 10: a line of the job begins with order and none with reduce
abbrev pub orders_no_fold : List Line → Bool
orders_no_fold own = stands word.Order own && not (stands word.Reduce own)

abbrev pub job_codes : List Line → List ℕ
job_codes own = where_ (lacks_input own) 8 ++ (where_ (lacks_one_function own) 9 ++ where_ (orders_no_fold own) 10)

-- ---- all codes of a line

-- those that it has without the lines below it; 11: it is longer than 4,096 bytes
abbrev pub own_codes : List Line → Line → List ℕ
own_codes above too_long = 11 ∷ []
own_codes above silent = []
own_codes above unknown = 1 ∷ []
own_codes above (workers args) = form_codes [] (workers_form args) ++ above_codes above (workers args)
own_codes above (job args) = form_codes [] (job_form args) ++ above_codes above (job args)
own_codes above (says directive args) = form_codes (earlier_names above) (directive_form directive args) ++ above_codes above (says directive args)

-- those that hold on a line, with the lines above it, nearest first, and the lines below it
abbrev pub codes_on : List Line → Line → List Line → List ℕ
codes_on above line below = own_codes above line ++ (if is_job line then job_codes (own_below below) else [])
