-- Texts that were loaded name by name are the texts that were first named.
use Rattle.std.proofs.Common.{◌≡◌, ℕ, suc, ◌+◌, ◌<◌, ◌≤◌, List, [], ◌∷◌, ◌++◌, true, false, None, length, take, drop, get_or, refl, ap, sym, ◌∙◌, subst, append_assoc, inl, inr, arith}
use Rattle.std.specs.Prelude.{All, IfSome, IsSome, map, is_some}
use Rattle.std.proofs.lemmas.List.Elements.{All-nil, All-cons, All-push}
use Rattle.std.proofs.Math.Seq.{drop-cons}
use Rattle.std.proofs.lemmas.List.{append-nil, map-append, take_all, take_more, take-append-drop}
use Rattle.std.proofs.lemmas.List.Sums.{sum_by-append}
use Rattle.std.proofs.lemmas.Grind.{common_steps, flat_map-append}
use Rattle.qtc_outside.specs.Counts.{risen}
use Rattle.qtc_outside.specs.Shelf.{text_under}
use Rattle.qtc_outside.specs.Source.{Source, IsCalm}
use Rattle.qtc_outside.specs.Loading.{NotLoaded}
use Rattle.qtc_outside.specs.declared.loading.LoadFault.{LoadFault}
use Rattle.qtc_outside.specs.declared.loading.LoadFault.TheVariants.{Read, TooLong, Memory}
use Rattle.qtc_base.specs.Limits.{most_text}
use Rattle.qtc_job_file.specs.declared.jobs.Job.{Job}
use Rattle.qtc_job_file.specs.Texts.{Texts, names_of, names_of_all}
use Rattle.qtc_load.specs.Loads.{first_named, name_of, bytes_of, room_after, LoadsTexts, StopsAt, TextsStop}
use Rattle.qtc_load.specs.LoadSteps.{IsThere, IsLoaded, LoadsNext, LoadsMore, NextStops, NamesStop}
use Rattle.qtc_load.proofs.Names.{is_among, among-first, first-again, first-new, first-split, under-among, under-kept, under-end}

pub calm-same : (source : Source) → IsCalm source source
calm-same source = record { held = refl; faults = refl; blamed = refl }

pub calm-then : (a b c : Source) → IsCalm a b → IsCalm b c → IsCalm a c
calm-then a b c p q = record { held = q.held ∙ p.held; faults = q.faults ∙ p.faults; blamed = q.blamed ∙ p.blamed }

pub risen-then : (count a b : ℕ) → risen (risen count a) b ≡ risen count (a + b)
risen-then count a b = omega arith

pub risen-none : (count : ℕ) → risen count 0 ≡ count
risen-none count = omega arith

-- ---- one name

-- whether a name has a text is whether it was named
named-under : (seen : List (List ℕ)) (texts : Texts) (n : List ℕ) → map name_of texts ≡ first_named seen → is_some (text_under texts n) ≡ is_among n seen
named-under seen texts n under = under-among texts n ∙ (ap (is_among n) under ∙ among-first n seen)

none-false : (texts : Texts) (n : List ℕ) → text_under texts n ≡ None → is_some (text_under texts n) ≡ false
none-false texts n e = rw e refl

some-true : (texts : Texts) (n : List ℕ) → IsSome (text_under texts n) → is_some (text_under texts n) ≡ true
some-true texts n e = e

-- the text under a name that has none was loaded behind the others
loaded-next : (first source after : Source) (seen : List (List ℕ)) (old new : Texts) (name : List ℕ) → LoadsTexts (first_named seen) first old source → IsLoaded old source name new after → LoadsTexts (first_named (seen ++ name ∷ [])) first new after
loaded-next first source after seen old new name l n =
    let absent : is_among name seen ≡ false = sym (named-under seen old name l.under) ∙ none-false old name n.missing in
    let text = n.text in
    let within = n.loads.within in
    let few = l.few in
    let size : bytes_of (old ++ (name, text) ∷ []) ≡ bytes_of old + length text = sum_by-append (λ t. length t.1) old ((name, text) ∷ []) ∙ grind (arith, common_steps) in
    rw n.texts (record {
      under = map-append name_of old ((name, text) ∷ []) ∙ (ap (λ s. s ++ name ∷ []) l.under ∙ sym (first-new seen name absent));
      told = All-push (λ t. IfSome (first.held t.0) (λ held. t.1 ≡ held)) old (name, text) l.told (rw l.calm.held at n.loads.told);
      short = All-push (λ t. length t.1 ≤ most_text) old (name, text) l.short (omega arith);
      few = omega (arith, size);
      taken = n.loads.taken ∙ (ap (λ t. risen t (length text)) l.taken ∙ (risen-then first.taken (bytes_of old) (length text) ∙ ap (risen first.taken) (sym size)));
      calm = calm-then first source after l.calm n.loads.calm;
    })

there-next : (first source after : Source) (seen : List (List ℕ)) (old new : Texts) (name : List ℕ) → LoadsTexts (first_named seen) first old source → IsThere old source name new after → LoadsTexts (first_named (seen ++ name ∷ [])) first new after
there-next first source after seen old new name l n =
    let among : is_among name seen ≡ true = sym (named-under seen old name l.under) ∙ n.there in
    rw (n.texts, n.same, first-again seen name among) l

loads-next : (first source after : Source) (seen : List (List ℕ)) (old new : Texts) (name : List ℕ) → LoadsTexts (first_named seen) first old source → LoadsNext old source name new after → LoadsTexts (first_named (seen ++ name ∷ [])) first new after
loads-next first source after seen old new name l n =
    elim n [
      | inl there ↦ there-next first source after seen old new name l there
      | inr loaded ↦ loaded-next first source after seen old new name l loaded
    ]

-- ---- many names

pub loads-more : (names seen : List (List ℕ)) (first source after : Source) (old new : Texts) → LoadsTexts (first_named seen) first old source → LoadsMore names old source new after → LoadsTexts (first_named (seen ++ names)) first new after
loads-more [] seen first source after old new l m = rw (m.0, m.1, append-nil seen) l
loads-more (name ∷ names) seen first source after old new l m =
    let next = loads-next first source m.1 seen old m.0 name l m.2 in
    let rest = loads-more names (seen ++ name ∷ []) first m.1 after m.0 new next m.3 in
    subst (λ s. LoadsTexts (first_named s) first new after) (append_assoc seen (name ∷ []) names) rest

pub loads-none : (source : Source) → LoadsTexts [] source [] source
loads-none source = record {
  under = refl;
  told = All-nil (λ t. IfSome (source.held t.0) (λ held. t.1 ≡ held));
  short = All-nil (λ t. length t.1 ≤ most_text);
  few = omega arith;
  taken = sym (risen-none source.taken);
  calm = calm-same source;
}

pub more-then : (xs ys : List (List ℕ)) (a b c : Texts) (sa sb sc : Source) → LoadsMore xs a sa b sb → LoadsMore ys b sb c sc → LoadsMore (xs ++ ys) a sa c sc
more-then [] ys a b c sa sb sc p q = rw (← p.0, ← p.1) q
more-then (x ∷ xs) ys a b c sa sb sc p q = (p.0, p.1, p.2, more-then xs ys p.0 b c p.1 sb sc p.3 q)

pub more-one : (name : List ℕ) (old new : Texts) (source after : Source) → LoadsNext old source name new after → LoadsMore (name ∷ []) old source new after
more-one name old new source after n = (new, after, n, (refl, refl))

-- ---- every name has a text

next-keeps : (old new : Texts) (source after : Source) (name n : List ℕ) → LoadsNext old source name new after → is_some (text_under old n) ≡ true → is_some (text_under new n) ≡ true
next-keeps old new source after name n next some =
    elim next [
      | inl there ↦ rw there.texts some
      | inr loaded ↦ rw loaded.texts (under-kept old ((name, loaded.text) ∷ []) n some)
    ]

next-has : (old new : Texts) (source after : Source) (name : List ℕ) → LoadsNext old source name new after → is_some (text_under new name) ≡ true
next-has old new source after name next =
    elim next [
      | inl there ↦ rw there.texts there.there
      | inr loaded ↦ rw loaded.texts (under-end old name loaded.text)
    ]

more-keeps : (names : List (List ℕ)) (old new : Texts) (source after : Source) (n : List ℕ) → LoadsMore names old source new after → is_some (text_under old n) ≡ true → is_some (text_under new n) ≡ true
more-keeps [] old new source after n m some = rw m.0 some
more-keeps (name ∷ names) old new source after n m some = more-keeps names m.0 new m.1 after n m.3 (next-keeps old m.0 source m.1 name n m.2 some)

pub more-has : (names : List (List ℕ)) (old new : Texts) (source after : Source) → LoadsMore names old source new after → All (λ n. IsSome (text_under new n)) names
more-has [] old new source after m = All-nil (λ n. IsSome (text_under new n))
more-has (name ∷ names) old new source after m =
    All-cons (λ n. IsSome (text_under new n)) name names (more-keeps names m.0 new m.1 after name m.3 (next-has old m.0 source m.1 name m.2)) (more-has names m.0 new m.1 after m.3)

-- ---- where it stops

stops-at : (first after : Source) (fault : LoadFault) (names before others : List (List ℕ)) (name : List ℕ) (texts : Texts) (between : Source) → names ≡ before ++ name ∷ others → LoadsTexts (first_named before) first texts between → text_under texts name ≡ None → NotLoaded (room_after texts) between name fault after → StopsAt (first_named names) first fault name after
stops-at first after fault names before others name texts between are l missing stops =
    let absent : is_among name before ≡ false = sym (named-under before texts name l.under) ∙ none-false texts name missing in
    let split = first-split before name others absent in
    record {
      before = first_named before;
      after = split.0;
      names_are = ap first_named are ∙ split.1;
      texts = texts;
      between = between;
      loads = l;
      stops = stops;
    }

loads-before : (first between : Source) (before : List (List ℕ)) (texts : Texts) → LoadsMore before [] first texts between → LoadsTexts (first_named before) first texts between
loads-before first between before texts m = loads-more before [] first first between [] texts (loads-none first) m

pub names-stop : (first after : Source) (fault : LoadFault) (names : List (List ℕ)) → NamesStop names [] first fault after → TextsStop (first_named names) first fault after
names-stop first after Read names s =
    let l = loads-before first s.between s.before s.texts s.loads in
    (s.name, stops-at first after Read names s.before s.others s.name s.texts s.between s.names_are l s.stops.0 s.stops.1)
names-stop first after TooLong names s =
    let l = loads-before first s.between s.before s.texts s.loads in
    (s.name, stops-at first after TooLong names s.before s.others s.name s.texts s.between s.names_are l s.stops.0 s.stops.1)
names-stop first after Memory names s =
    let l = loads-before first s.between s.before s.texts s.loads in
    calm-then first s.between after l.calm s.stops

-- names that are stopped at stop those that come after them too
pub stop-then : (xs ys : List (List ℕ)) (a b : Texts) (sa sb after : Source) (fault : LoadFault) → LoadsMore xs a sa b sb → NamesStop ys b sb fault after → NamesStop (xs ++ ys) a sa fault after
stop-then xs ys a b sa sb after fault m s = record {
  before = xs ++ s.before;
  name = s.name;
  others = s.others;
  names_are = ap (λ n. xs ++ n) s.names_are ∙ sym (append_assoc xs s.before (s.name ∷ s.others));
  texts = s.texts;
  between = s.between;
  loads = more-then xs s.before a b s.texts sa sb s.between m s.loads;
  stops = s.stops;
}

pub stop-before : (xs ys : List (List ℕ)) (a : Texts) (sa after : Source) (fault : LoadFault) → NamesStop xs a sa fault after → NamesStop (xs ++ ys) a sa fault after
stop-before xs ys a sa after fault s = record {
  before = s.before;
  name = s.name;
  others = s.others ++ ys;
  names_are = ap (λ n. n ++ ys) s.names_are ∙ append_assoc s.before (s.name ∷ s.others) ys;
  texts = s.texts;
  between = s.between;
  loads = s.loads;
  stops = s.stops;
}

pub stop-one : (name : List ℕ) (a : Texts) (sa after : Source) (fault : LoadFault) → NextStops a sa name fault after → NamesStop (name ∷ []) a sa fault after
stop-one name a sa after fault s = record {
  before = [];
  name = name;
  others = [];
  names_are = refl;
  texts = a;
  between = sa;
  loads = (refl, refl);
  stops = s;
}

-- ---- the names of a list, and the jobs of a file, one after the other

split-at : {X : Type 0} (xs : List X) (k : ℕ) (d : X) → k < length xs → xs ≡ take k xs ++ get_or xs k d ∷ drop (suc k) xs
split-at xs k d lt = sym (take-append-drop k xs) ∙ ap (λ s. take k xs ++ s) (drop-cons xs k d lt)

pub more-next : (names : List (List ℕ)) (k : ℕ) (d name : List ℕ) (a b c : Texts) (sa sb sc : Source) → k < length names → name ≡ get_or names k d → LoadsMore (take k names) a sa b sb → LoadsNext b sb name c sc → LoadsMore (take (k + 1) names) a sa c sc
more-next names k d name a b c sa sb sc lt is m n =
    rw (take_more names k d lt, ← is) (more-then (take k names) (name ∷ []) a b c sa sb sc m (more-one name b c sb sc n))

pub stop-next : (names : List (List ℕ)) (k : ℕ) (d name : List ℕ) (a b : Texts) (sa sb after : Source) (fault : LoadFault) → k < length names → name ≡ get_or names k d → LoadsMore (take k names) a sa b sb → NextStops b sb name fault after → NamesStop names a sa fault after
stop-next names k d name a b sa sb after fault lt is m s = record {
  before = take k names;
  name = name;
  others = drop (suc k) names;
  names_are = split-at names k d lt ∙ ap (λ n. take k names ++ n ∷ drop (suc k) names) (sym is);
  texts = b;
  between = sb;
  loads = m;
  stops = s;
}

names-more : (jobs : List Job) (k : ℕ) (job : Job) → k < length jobs → job ≡ get_or jobs k job → names_of_all (take (k + 1) jobs) ≡ names_of_all (take k jobs) ++ names_of job.input
names-more jobs k job lt is =
    ap names_of_all (take_more jobs k job lt) ∙ (flat_map-append (λ (j : Job). names_of j.input) (take k jobs) (get_or jobs k job ∷ []) ∙ ap (λ s. names_of_all (take k jobs) ++ s) (append-nil (names_of (get_or jobs k job).input) ∙ ap (λ (j : Job). names_of j.input) (sym is)))

pub jobs-next : (jobs : List Job) (k : ℕ) (job : Job) (a b c : Texts) (sa sb sc : Source) → k < length jobs → job ≡ get_or jobs k job → LoadsMore (names_of_all (take k jobs)) a sa b sb → LoadsMore (names_of job.input) b sb c sc → LoadsMore (names_of_all (take (k + 1) jobs)) a sa c sc
jobs-next jobs k job a b c sa sb sc lt is m n =
    rw (names-more jobs k job lt is) (more-then (names_of_all (take k jobs)) (names_of job.input) a b c sa sb sc m n)

pub jobs-stop : (jobs : List Job) (k : ℕ) (job : Job) (b : Texts) (sa sb after : Source) (fault : LoadFault) → k < length jobs → job ≡ get_or jobs k job → LoadsMore (names_of_all (take k jobs)) [] sa b sb → NamesStop (names_of job.input) b sb fault after → TextsStop (first_named (names_of_all jobs)) sa fault after
jobs-stop jobs k job b sa sb after fault lt is m s =
    let here = stop-then (names_of_all (take k jobs)) (names_of job.input) [] b sa sb after fault m s in
    let there = rw (← names-more jobs k job lt is) at here in
    let whole = stop-before (names_of_all (take (k + 1) jobs)) (names_of_all (drop (k + 1) jobs)) [] sa after fault there in
    let all : names_of_all (take (k + 1) jobs) ++ names_of_all (drop (k + 1) jobs) ≡ names_of_all jobs =
    sym (flat_map-append (λ (j : Job). names_of j.input) (take (k + 1) jobs) (drop (k + 1) jobs)) ∙ ap names_of_all (take-append-drop (k + 1) jobs) in
    names-stop sa after fault (names_of_all jobs) (rw all at whole)

pub jobs-loaded : (jobs : List Job) (k : ℕ) (b : Texts) (sa sb : Source) → length jobs ≤ k → LoadsMore (names_of_all (take k jobs)) [] sa b sb → LoadsTexts (first_named (names_of_all jobs)) sa b sb
jobs-loaded jobs k b sa sb le m = loads-before sa sb (names_of_all jobs) b (rw (take_all k jobs le) at m)

pub jobs-have : (jobs : List Job) (k : ℕ) (b : Texts) (sa sb : Source) → length jobs ≤ k → LoadsMore (names_of_all (take k jobs)) [] sa b sb → All (λ n. IsSome (text_under b n)) (names_of_all jobs)
jobs-have jobs k b sa sb le m = more-has (names_of_all jobs) [] b sa sb (rw (take_all k jobs le) at m)
