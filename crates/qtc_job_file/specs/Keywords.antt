-- The words of the job language. (Own.)
use Rattle.std.specs.Prelude.{ℕ, List, [], ◌∷◌, Option, codes}
use Rattle.std.specs.List.{find}
use Rattle.std.specs.Str.{bytes_eq}
use Rattle.qtc_job_file.specs.declared.keywords.Keyword.{Keyword}
use Rattle.qtc_job_file.specs.declared.keywords.Keyword.TheVariants as word

-- each word is spelled here, and nowhere else
abbrev pub spelling : Keyword → List ℕ
spelling word.Workers = codes "workers"
spelling word.Job = codes "job"
spelling word.Input = codes "input"
spelling word.Map = codes "map"
spelling word.Filter = codes "filter"
spelling word.Reduce = codes "reduce"
spelling word.Order = codes "order"
spelling word.Blocks = codes "blocks"
spelling word.Priority = codes "priority"
spelling word.CancelAfter = codes "cancel-after"
spelling word.SuspendAfter = codes "suspend-after"
spelling word.Watch = codes "watch"
spelling word.Then = codes "then"
spelling word.OnFailed = codes "on-failed"
spelling word.OnCanceled = codes "on-canceled"
spelling word.Lines = codes "lines"
spelling word.Files = codes "files"
spelling word.Pieces = codes "pieces"
spelling word.All = codes "all"
spelling word.Any = codes "any"
spelling word.Same = codes "same"
spelling word.Length = codes "length"
spelling word.Digest = codes "digest"
spelling word.Field = codes "field"
spelling word.Number = codes "number"
spelling word.Not = codes "not"
spelling word.Contains = codes "contains"
spelling word.Wildcard = codes "wildcard"
spelling word.Longer = codes "longer"
spelling word.Count = codes "count"
spelling word.Bytes = codes "bytes"
spelling word.Sum = codes "sum"
spelling word.Join = codes "join"
spelling word.Chain = codes "chain"
spelling word.Greatest = codes "greatest"
spelling word.Tally = codes "tally"
spelling word.Ordered = codes "ordered"
spelling word.Unordered = codes "unordered"
spelling word.First = codes "first"
spelling word.Sorted = codes "sorted"
spelling word.Concat = codes "concat"

abbrev pub every_keyword : List Keyword
every_keyword =
    word.Workers ∷ word.Job ∷ word.Input ∷ word.Map ∷ word.Filter ∷ word.Reduce ∷ word.Order ∷ word.Blocks ∷ word.Priority
    ∷ word.CancelAfter ∷ word.SuspendAfter ∷ word.Watch ∷ word.Then ∷ word.OnFailed ∷ word.OnCanceled ∷ word.Lines
    ∷ word.Files ∷ word.Pieces ∷ word.All ∷ word.Any ∷ word.Same ∷ word.Length ∷ word.Digest ∷ word.Field ∷ word.Number
    ∷ word.Not ∷ word.Contains ∷ word.Wildcard ∷ word.Longer ∷ word.Count ∷ word.Bytes ∷ word.Sum ∷ word.Join
    ∷ word.Chain ∷ word.Greatest ∷ word.Tally ∷ word.Ordered ∷ word.Unordered ∷ word.First ∷ word.Sorted ∷ word.Concat
    ∷ []

-- the keyword that is spelled so
unfoldable pub keyword_of : List ℕ → Option Keyword
keyword_of text = find (λ keyword. bytes_eq (spelling keyword) text) every_keyword
