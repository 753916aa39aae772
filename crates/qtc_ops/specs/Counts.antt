-- How often each value came, ascending by bytes. (Own.)
use Rattle.std.specs.Prelude.{◌≡◌, ℕ, ◌+◌, ◌≤◌, ◌==◌, All, codes, count_by, List, [], ◌++◌, length, map, unwrap_or, if◌then◌else◌}
use Rattle.std.specs.List.Sorted.{IsStrictlySortedBy}
use Rattle.std.specs.Str.{bytes_eq}
use Rattle.std.specs.Map.{keys_of, lookup, values_of}
use Rattle.std.specs.BTreeMap.{insert_entry, is_at}
use Rattle.qtc_base.specs.Decimal.{decimal_text}
use Rattle.qtc_ops.specs.Order.{bytes_cmp, capped}
use Rattle.qtc_ops.specs.Texts.{joined_by}

-- the count of a value, 0 where it never came
abbrev pub count_of : List (List ℕ × ℕ) → List ℕ → ℕ
count_of counts value = unwrap_or (lookup (is_at (bytes_cmp value)) counts) 0

-- the counts after one more value
abbrev pub counted : List (List ℕ × ℕ) → List ℕ → List (List ℕ × ℕ)
counted counts value = insert_entry bytes_cmp counts value (capped (count_of counts value + 1))

-- value=count
abbrev pub count_text : List ℕ × ℕ → List ℕ
count_text entry = entry.0 ++ codes "=" ++ decimal_text entry.1

-- the counts, parted by `;`
abbrev pub counts_text : List (List ℕ × ℕ) → List ℕ
counts_text counts = joined_by (codes ";") (map count_text counts)

-- a text of counts to which one more can be appended
abbrev pub separated : List ℕ → List ℕ
separated text = if length text == 0 then [] else text ++ codes ";"

-- how often each of the values came, ascending by bytes, and no other value
pub record AreCounts (values : List (List ℕ)) (counts : List (List ℕ × ℕ)) : Type 0 where
  pub ascending : IsStrictlySortedBy bytes_cmp (keys_of counts)
  pub each : (value : List ℕ) → count_of counts value ≡ capped (count_by (bytes_eq value) values)
  pub some : All (λ count. 1 ≤ count) (values_of counts)
