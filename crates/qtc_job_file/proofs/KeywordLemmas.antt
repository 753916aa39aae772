-- Each keyword is the one that is spelled so.
use Rattle.std.proofs.Common.{◌≡◌, ℕ, Bool, true, false, List, [], ◌∷◌, Some, refl, ap, sym, ◌∙◌, ⊎_elim}
use Rattle.std.specs.List.{find}
use Rattle.std.specs.Str.{bytes_eq}
use Rattle.std.proofs.lemmas.Bool.{cases_Bool}
use Rattle.std.proofs.lemmas.Slice.Eq.{bytes_eq-Decides}
use Rattle.qtc_job_file.specs.declared.keywords.Keyword.{Keyword}
use Rattle.qtc_job_file.specs.declared.keywords.Keyword.TheVariants as word
use Rattle.qtc_job_file.specs.Keywords.{spelling, every_keyword, keyword_of}

pub keyword-spelled : (k : Keyword) → keyword_of (spelling k) ≡ Some k
unfolding keyword_of
keyword-spelled word.Workers = refl
keyword-spelled word.Job = refl
keyword-spelled word.Input = refl
keyword-spelled word.Map = refl
keyword-spelled word.Filter = refl
keyword-spelled word.Reduce = refl
keyword-spelled word.Order = refl
keyword-spelled word.Blocks = refl
keyword-spelled word.Priority = refl
keyword-spelled word.CancelAfter = refl
keyword-spelled word.SuspendAfter = refl
keyword-spelled word.Watch = refl
keyword-spelled word.Then = refl
keyword-spelled word.OnFailed = refl
keyword-spelled word.OnCanceled = refl
keyword-spelled word.Lines = refl
keyword-spelled word.Files = refl
keyword-spelled word.Pieces = refl
keyword-spelled word.All = refl
keyword-spelled word.Any = refl
keyword-spelled word.Same = refl
keyword-spelled word.Length = refl
keyword-spelled word.Digest = refl
keyword-spelled word.Field = refl
keyword-spelled word.Number = refl
keyword-spelled word.Not = refl
keyword-spelled word.Contains = refl
keyword-spelled word.Wildcard = refl
keyword-spelled word.Longer = refl
keyword-spelled word.Count = refl
keyword-spelled word.Bytes = refl
keyword-spelled word.Sum = refl
keyword-spelled word.Join = refl
keyword-spelled word.Chain = refl
keyword-spelled word.Greatest = refl
keyword-spelled word.Tally = refl
keyword-spelled word.Ordered = refl
keyword-spelled word.Unordered = refl
keyword-spelled word.First = refl
keyword-spelled word.Sorted = refl
keyword-spelled word.Concat = refl

-- what is found passes
find-passes : {X : Type 0} (p : X → Bool) (xs : List X) (x : X) → find p xs ≡ Some x → p x ≡ true
find-passes p [] x e = cc
find-passes p (y ∷ xs) x e = ⊎_elim
    (λ (here : p y ≡ true). let f : Some y ≡ Some x = rw here at e in let same : y ≡ x = cc in ap p (sym same) ∙ here)
    (λ (other : p y ≡ false). let f : find p xs ≡ Some x = rw other at e in find-passes p xs x f)
    (cases_Bool (p y))

pub keyword-is : (text : List ℕ) (k : Keyword) → keyword_of text ≡ Some k → text ≡ spelling k
unfolding keyword_of
keyword-is text k e = sym ((bytes_eq-Decides (spelling k) text).0 (find-passes (λ keyword. bytes_eq (spelling keyword) text) every_keyword k e))

-- no two keywords are spelled alike
pub spelling-same : (a b : Keyword) → bytes_eq (spelling a) (spelling b) ≡ true → a ≡ b
spelling-same a b e =
    let same : spelling a ≡ spelling b = (bytes_eq-Decides (spelling a) (spelling b)).0 e in
    let found : Some a ≡ Some b = sym (keyword-spelled a) ∙ (ap keyword_of same ∙ keyword-spelled b) in
    cc
