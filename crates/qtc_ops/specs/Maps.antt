-- What each map makes of an item. (Own; digests by FIPS 180-4.)
use Rattle.std.specs.Prelude.{ℕ, List, length, if◌then◌else◌}
use Rattle.sha2.specs.Sha256.{sha256}
use Rattle.hex.specs.Hex.{encode_lower}
use Rattle.qtc_base.specs.Decimal.{decimal_text, number_of}
use Rattle.qtc_ops.specs.Fields.{field_of}
use Rattle.qtc_ops.specs.Numbers.{is_number}
use Rattle.qtc_ops.specs.ItemValue.{ItemValue, kept, bad}
use Rattle.qtc_ops.specs.declared.operations.MapOp.{MapOp}
use Rattle.qtc_ops.specs.declared.operations.MapOp.TheVariants.{Same, Length, Digest, Field, Number}

-- SHA-256 as 64 lower-case hexadecimal digits (FIPS 180-4, section 6.2)
abbrev pub digest_text : List ℕ → List ℕ
digest_text message = encode_lower (sha256 message)

-- one row for each map
abbrev pub map_value : MapOp → List ℕ → ItemValue
map_value Same item = kept item
map_value Length item = kept (decimal_text (length item))
map_value Digest item = kept (digest_text item)
map_value (Field number) item = kept (field_of number item)
map_value Number item = if is_number item then kept (decimal_text (number_of item)) else bad
