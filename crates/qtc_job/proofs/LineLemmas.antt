-- Lines that are appended word by word.
use Rattle.std.proofs.Common.{◌≡◌, ℕ, List, [], ◌∷◌, ◌++◌, refl, ap, sym, ◌∙◌, append_assoc, append-nil}
use Rattle.std.specs.List.{join_with_byte}
use Rattle.qtc_job_file.specs.Canonical.{ended_line}
use Rattle.qtc_job.specs.Tails.{tail, ended_lines}

pub join-tail : (word : List ℕ) (words : List (List ℕ)) → join_with_byte 32 (word ∷ words) ≡ word ++ tail words
join-tail word [] = sym (append-nil word)
join-tail word (next ∷ words) = ap (λ s. word ++ (32 ∷ s)) (join-tail next words)

-- a first word, the others each after a space, and LF
pub line-is : (word : List ℕ) (words : List (List ℕ)) → ended_line (word ∷ words) ≡ word ++ (tail words ++ 10 ∷ [])
line-is word words = ap (λ s. s ++ 10 ∷ []) (join-tail word words) ∙ append_assoc word (tail words) (10 ∷ [])

pub lines-append : (a b : List (List (List ℕ))) → ended_lines (a ++ b) ≡ ended_lines a ++ ended_lines b
lines-append [] b = refl
lines-append (l ∷ a) b = ap (λ s. ended_line l ++ s) (lines-append a b) ∙ sym (append_assoc (ended_line l) (ended_lines a) (ended_lines b))

pub ruleset line_laws = (line-is, lines-append, append_assoc, append-nil)
