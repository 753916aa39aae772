-- The head of a queue, in other words.
use Rattle.std.proofs.Common.{◌≡◌, ℤ, ◌<ℤ◌, ◌≤ℤ◌, ◌&&◌, Bool, true, false, cond, List, [], ◌∷◌, ◌++◌, Some, None, refl, ap, sym, ◌∙◌, All, arith}
use lib.Signed.{le_z}
use Rattle.std.specs.List.{find, list_all}
use Rattle.std.proofs.lemmas.Int.{ints, by_lt_z}
use Rattle.std.proofs.lemmas.Bool.{and_parts}
use Rattle.std.proofs.lemmas.List.Elements.{All-cons, All-head, All-nil, All-tail}
use Rattle.qtc_pool_core.specs.Machine.{Ticket, head_of, is_greatest}
use Rattle.qtc_pool_core.specs.Laws.{IsFirstOfGreatest, HeadsAreFirst}

-- the first that passes, with what stands before it and after it
record Split (p : Ticket → Bool) (queue : List Ticket) (head : Ticket) : Type 0 where
  before : List Ticket
  after : List Ticket
  place : queue ≡ before ++ head ∷ after
  fail : All (λ other. p other ≡ false) before
  passes : p head ≡ true

find_split : (p : Ticket → Bool) (queue : List Ticket) (head : Ticket) → find p queue ≡ Some head → Split p queue head
find_split p [] head h = absurd (cc)
find_split p (first ∷ queue) head h =
    let Fails : Ticket → Type 0 = λ other. p other ≡ false in
    let go : (b : Bool) → p first ≡ b → cond b (Some first) (find p queue) ≡ Some head → Split p (first ∷ queue) head = elim [
      | true ↦ λ passes e. (let is : first ≡ head = (cc) in record { before = []; after = queue; place = ap (λ t. t ∷ queue) is; fail = All-nil Fails; passes = ap p (sym is) ∙ passes })
      | false ↦ λ fails e. (let rest = find_split p queue head e in record { before = first ∷ rest.before; after = rest.after; place = ap (λ ts. first ∷ ts) rest.place; fail = All-cons Fails first rest.before fails rest.fail; passes = rest.passes })
    ] in
    go (p first) refl h

split_find : (p : Ticket → Bool) (before after : List Ticket) (head : Ticket) → All (λ other. p other ≡ false) before → p head ≡ true → find p (before ++ head ∷ after) ≡ Some head
split_find p [] after head fail passes = rw passes refl
split_find p (first ∷ before) after head fail passes =
    let Fails : Ticket → Type 0 = λ other. p other ≡ false in
    rw (All-head Fails first before fail) (split_find p before after head (All-tail Fails first before fail) passes)

le_true : (a b : ℤ) → le_z a b ≡ true → a ≤ℤ b
le_true a b h = grind (arith, ints)

true_le : (a b : ℤ) → a ≤ℤ b → le_z a b ≡ true
true_le a b h = grind (arith, ints)

lt_false : (a b : ℤ) → b <ℤ a → le_z a b ≡ false
lt_false a b h = grind (arith, ints)

le_self : (a : ℤ) → le_z a a ≡ true
le_self a = grind (arith, ints)

lt_le : (a b : ℤ) → a <ℤ b → a ≤ℤ b
lt_le a b h = grind (arith, ints)

le_trans : (a b c : ℤ) → a ≤ℤ b → b ≤ℤ c → a ≤ℤ c
le_trans a b c h k = grind (arith, ints)

all_at_most : (priority : ℤ) (queue : List Ticket) → list_all (λ other. le_z other.priority priority) queue ≡ true → All (λ other. other.priority ≤ℤ priority) queue
all_at_most priority [] h = All-nil (λ (other : Ticket). other.priority ≤ℤ priority)
all_at_most priority (first ∷ queue) h =
    let parts = and_parts (le_z first.priority priority) (list_all (λ other. le_z other.priority priority) queue) h in
    All-cons (λ (other : Ticket). other.priority ≤ℤ priority) first queue (le_true first.priority priority parts.0) (all_at_most priority queue parts.1)

at_most_all : (priority : ℤ) (queue : List Ticket) → All (λ other. other.priority ≤ℤ priority) queue → list_all (λ other. le_z other.priority priority) queue ≡ true
at_most_all priority [] h = refl
at_most_all priority (first ∷ queue) h =
    let P : Ticket → Type 0 = λ other. other.priority ≤ℤ priority in
    rw (true_le first.priority priority (All-head P first queue h)) (at_most_all priority queue (All-tail P first queue h))

raised : (low high : ℤ) (queue : List Ticket) → low ≤ℤ high → All (λ other. other.priority ≤ℤ low) queue → All (λ other. other.priority ≤ℤ high) queue
raised low high [] h all = All-nil (λ (other : Ticket). other.priority ≤ℤ high)
raised low high (first ∷ queue) h all =
    let P : Ticket → Type 0 = λ other. other.priority ≤ℤ low in
    All-cons (λ (other : Ticket). other.priority ≤ℤ high) first queue (le_trans first.priority low high (All-head P first queue all) h) (raised low high queue h (All-tail P first queue all))

-- who is not greatest has less than who is
lower : (queue : List Ticket) (head other : Ticket) → All (λ o. o.priority ≤ℤ head.priority) queue → is_greatest queue other ≡ false → other.priority <ℤ head.priority
lower queue head other all fails =
    by_lt_z other.priority head.priority (λ less. less) (λ more.
    absurd (let e = at_most_all other.priority queue (raised head.priority other.priority queue more all) in (let f : true ≡ false = sym e ∙ fails in (cc))))

lower_all : (queue before : List Ticket) (head : Ticket) → All (λ o. o.priority ≤ℤ head.priority) queue → All (λ other. is_greatest queue other ≡ false) before → All (λ other. other.priority <ℤ head.priority) before
lower_all queue [] head all fail = All-nil (λ (other : Ticket). other.priority <ℤ head.priority)
lower_all queue (first ∷ before) head all fail =
    let Fails : Ticket → Type 0 = λ other. is_greatest queue other ≡ false in
    All-cons (λ (other : Ticket). other.priority <ℤ head.priority) first before (lower queue head first all (All-head Fails first before fail)) (lower_all queue before head all (All-tail Fails first before fail))

-- one that has more is in the queue
passed_over : (p : Ticket → Bool) (before after : List Ticket) (head : Ticket) → p head ≡ false → list_all p (before ++ head ∷ after) ≡ false
passed_over p [] after head fails = rw fails refl
passed_over p (first ∷ before) after head fails =
    let rest = passed_over p before after head fails in
    elim (p first) as (λ b. (b && list_all p (before ++ head ∷ after)) ≡ false) [ true ↦ rest | false ↦ refl ]

fail_all : (queue before rest after : List Ticket) (head : Ticket) → queue ≡ before ++ head ∷ after → All (λ other. other.priority <ℤ head.priority) rest → All (λ other. is_greatest queue other ≡ false) rest
fail_all queue before [] after head place sooner = All-nil (λ (other : Ticket). is_greatest queue other ≡ false)
fail_all queue before (first ∷ rest) after head place sooner =
    let P : Ticket → Type 0 = λ other. other.priority <ℤ head.priority in
    let less = All-head P first rest sooner in
    let fails = ap (list_all (λ other. le_z other.priority first.priority)) place ∙ passed_over (λ other. le_z other.priority first.priority) before after head (lt_false head.priority first.priority less) in
    All-cons (λ (other : Ticket). is_greatest queue other ≡ false) first rest fails (fail_all queue before rest after head place (All-tail P first rest sooner))

head_first : (queue : List Ticket) (head : Ticket) → head_of queue ≡ Some head → IsFirstOfGreatest queue head
head_first queue head h =
    let s = find_split (is_greatest queue) queue head h in
    let all = all_at_most head.priority queue s.passes in
    record { before = s.before; after = s.after; place = s.place; sooner = lower_all queue s.before head all s.fail; all = all }

first_head : (queue : List Ticket) (head : Ticket) → IsFirstOfGreatest queue head → head_of queue ≡ Some head
first_head queue head f =
    let fail = fail_all queue f.before f.before f.after head f.place f.sooner in
    ap (find (is_greatest queue)) f.place ∙ split_find (is_greatest queue) f.before f.after head fail (at_most_all head.priority queue f.all)

-- ---- a queue with a task has a head
record Greatest (queue : List Ticket) : Type 0 where
  ticket : Ticket
  before : List Ticket
  after : List Ticket
  place : queue ≡ before ++ ticket ∷ after
  all : All (λ other. other.priority ≤ℤ ticket.priority) queue

greatest : (first : Ticket) (queue : List Ticket) → Greatest (first ∷ queue)
greatest first [] = record { ticket = first; before = []; after = []; place = refl; all = All-cons (λ (other : Ticket). other.priority ≤ℤ first.priority) first [] (le_true first.priority first.priority (le_self first.priority)) (All-nil (λ (other : Ticket). other.priority ≤ℤ first.priority)) }
greatest first (second ∷ queue) =
    let rest = greatest second queue in
    by_lt_z rest.ticket.priority first.priority
    (λ less. record { ticket = first; before = []; after = second ∷ queue; place = refl; all = All-cons (λ (other : Ticket). other.priority ≤ℤ first.priority) first (second ∷ queue) (le_true first.priority first.priority (le_self first.priority)) (raised rest.ticket.priority first.priority (second ∷ queue) (lt_le rest.ticket.priority first.priority less) rest.all) })
    (λ more. record { ticket = rest.ticket; before = first ∷ rest.before; after = rest.after; place = ap (λ ts. first ∷ ts) rest.place; all = All-cons (λ (other : Ticket). other.priority ≤ℤ rest.ticket.priority) first (second ∷ queue) more rest.all })

none_pass : (p : Ticket → Bool) (before after : List Ticket) (ticket : Ticket) → find p (before ++ ticket ∷ after) ≡ None → p ticket ≡ false
none_pass p [] after ticket h =
    let go : (b : Bool) → cond b (Some ticket) (find p after) ≡ None → b ≡ false = elim [ true ↦ λ e. absurd (cc) | false ↦ λ e. refl ] in
    go (p ticket) h
none_pass p (first ∷ before) after ticket h =
    let go : (b : Bool) → cond b (Some first) (find p (before ++ ticket ∷ after)) ≡ None → p ticket ≡ false = elim [ true ↦ λ e. absurd (cc) | false ↦ λ e. none_pass p before after ticket e ] in
    go (p first) h

no_head : (queue : List Ticket) → head_of queue ≡ None → queue ≡ []
no_head [] h = refl
no_head (first ∷ queue) h =
    let g = greatest first queue in
    let passes = at_most_all g.ticket.priority (first ∷ queue) g.all in
    let fails = none_pass (is_greatest (first ∷ queue)) g.before g.after g.ticket (ap (find (is_greatest (first ∷ queue))) (sym g.place) ∙ h) in
    absurd (let e : true ≡ false = sym passes ∙ fails in (cc))

pub heads_are_first : HeadsAreFirst
heads_are_first = record {
  some = λ queue head. (head_first queue head, first_head queue head);
  none = no_head;
}
