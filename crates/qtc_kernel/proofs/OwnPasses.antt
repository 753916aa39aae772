-- What the plain kinds are among all.
use Rattle.std.proofs.Common.{◌≡◌, ◌+◌, ℕ, true, false, List, [], refl, sym}
use Rattle.std.proofs.lemmas.Bool.{false≢true}
use Rattle.qtc_events.specs.declared.calls.Call.{Call}
use Rattle.qtc_events.specs.declared.calls.Call.TheVariants.{Start, Report, Account, Suspend, Resume, ReportSuspended, Cancel, Fail, Finish}
use Rattle.qtc_future.specs.Future.{batch_of}
use Rattle.qtc_shared.specs.Parts.{Terms}
use Rattle.qtc_kernel.specs.EngineParts.{is_report}
use Rattle.qtc_kernel.specs.OwnPasses.{desk_makes, drops_items, is_filter, is_reduced, own_passes}
use Rattle.qtc_kernel.specs.declared.kinds.Kind.{Kind}
use Rattle.qtc_kernel.specs.declared.kinds.Kind.TheVariants.{Mapped, Filtered, MappedReduced, FilteredReduced}

pub plain_passes : (kind : Kind) (workers : ℕ) → is_reduced kind ≡ false → own_passes kind workers ≡ workers + 1
plain_passes Mapped workers plain = refl
plain_passes Filtered workers plain = refl
plain_passes MappedReduced workers plain = absurd (false≢true (sym plain))
plain_passes FilteredReduced workers plain = absurd (false≢true (sym plain))

pub plain_drops : (kind : Kind) → is_reduced kind ≡ false → drops_items kind ≡ is_filter kind
plain_drops Mapped plain = refl
plain_drops Filtered plain = refl
plain_drops MappedReduced plain = absurd (false≢true (sym plain))
plain_drops FilteredReduced plain = absurd (false≢true (sym plain))

-- a desk's pass reports nothing
pub desk_no_report : (kind : Kind) (terms : Terms) (call : Call) → desk_makes kind terms call ≡ true → is_report call ≡ false
desk_no_report kind terms Start own = refl
desk_no_report kind terms (Report begin kept total) own = absurd (false≢true own)
desk_no_report kind terms (Account total) own = refl
desk_no_report kind terms Suspend own = refl
desk_no_report kind terms Resume own = refl
desk_no_report kind terms ReportSuspended own = refl
desk_no_report kind terms Cancel own = refl
desk_no_report kind terms (Fail index) own = refl
desk_no_report kind terms Finish own = refl

-- what is no report has no batch
pub unreported : (call : Call) (values : List (List ℕ)) → is_report call ≡ false → batch_of call values ≡ []
unreported Start values none = refl
unreported (Report begin kept total) values none = absurd (false≢true (sym none))
unreported (Account total) values none = refl
unreported Suspend values none = refl
unreported Resume values none = refl
unreported ReportSuspended values none = refl
unreported Cancel values none = refl
unreported (Fail index) values none = refl
unreported Finish values none = refl
