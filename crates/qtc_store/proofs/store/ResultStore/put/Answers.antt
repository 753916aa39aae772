use Rattle.std.proofs.Common.{◌≡◌, ◌+◌, ◌∷◌, [], ◌++◌, max, ap, sym, ◌∙◌, subst}
use Rattle.qtc_store.specs.Inside.{batches_of, met_in, waiting_in, batches_in, IsLaid}
use Rattle.qtc_store.specs.Stored.{KeepsResults}
use Rattle.qtc_store.specs.Visible.{meeting}
use Rattle.qtc_store.proofs.StoreLemmas.{waiting_few, waiting_within, put_apart, put_at_end, put_waiting, put_gap, laid_after, view_after, kept_after, Lays}
use Rattle.qtc_store.proofs.store.ResultStore.put.Goals.{then-batch-self+in_ok-reserve, else-batch-self+in_ok-insert}
use Rattle.qtc_store.proofs.store.ResultStore.put.Goals as goal

pub meeting_len-joining-requires : goal.meeting_len-joining-requires
meeting_len-joining-requires g c =
    let s = c.self.inside in
    waiting_within s.filter s.front s.pending s.end c.self.invariant

pub join-requires-clause-few : goal.join-requires-clause-few
join-requires-clause-few g c =
    let s = c.self.inside in
    waiting_few s.filter s.front s.pending s.end c.self.invariant

pub join-requires-clause-bounded : goal.join-requires-clause-bounded
join-requires-clause-bounded g c =
    let s = c.self.inside in
    waiting_within s.filter s.front s.pending s.end c.self.invariant

pub insert-requires-clause-apart : goal.insert-requires-clause-apart
insert-requires-clause-apart g c =
    let s = c.self.inside in
    put_apart s.filter s.front s.pending s.end c.self.invariant c.args.self.now c.self.view_is c.args.batch c.if-batch-eq0.false c.requires.free c.requires.whole

lays : (g : _) (c : goal.After-self-1 g) → Lays (batches_in c.self.inside.front c.self.inside.pending) c.args.batch c.if-batch-self.self-inside.front c.if-batch-self.self-inside.pending
lays g c =
    let s = c.self.inside in
    let b = c.args.batch in
    elim c.if-batch-self.branch [
      | then-batch-self+in_ok-reserve w ↦
          let met = w.push.ensures.met ∙ ap (λ xs. batches_of xs ++ b ∷ []) w.in_ok-reserve.ensures.items in
          let l : Lays (batches_in s.front s.pending) b w.join.new.self w.join.new.pending = record {
            met = w.join.ensures.laid;
            keyed = w.join.ensures.keyed;
            gap = w.join.ensures.gap;
            all = w.join.ensures.all ∙ ap (λ xs. xs ++ waiting_in s.pending) met ∙ put_at_end s.filter s.front s.pending s.end c.self.invariant c.args.self.now c.self.view_is c.args.batch c.if-batch-eq0.false c.requires.free c.requires.whole w.if-batch-self.true;
          } in
          subst (λ i. Lays (batches_in s.front s.pending) b i.front i.pending) (sym w.self-inside-is) l
      | else-batch-self+in_ok-insert w ↦
          let waits = w.in_ok-insert.ensures.ok in
          let l : Lays (batches_in s.front s.pending) b s.front w.insert.new.self = record {
            met = c.self.invariant.met;
            keyed = w.in_ok-insert.ensures.keyed;
            gap = ap (meeting s.front.place) waits ∙ put_gap s.filter s.front s.pending s.end c.self.invariant c.args.self.now c.self.view_is c.args.batch c.if-batch-eq0.false c.requires.free c.requires.whole w.if-batch-self.false;
            all = ap (λ xs. met_in s.front ++ xs) waits ∙ put_waiting s.filter s.front s.pending s.end c.self.invariant c.args.self.now c.self.view_is c.args.batch c.if-batch-eq0.false c.requires.free c.requires.whole;
          } in
          subst (λ i. Lays (batches_in s.front s.pending) b i.front i.pending) (sym w.self-inside-is) l
    ]

same_mode : (g : _) (c : goal.After-self-1 g) → c.if-batch-self.self-inside.filter ≡ c.self.inside.filter
same_mode g c = elim c.if-batch-self.branch [
  | then-batch-self+in_ok-reserve w ↦ ap (λ i. i.filter) w.self-inside-is
  | else-batch-self+in_ok-insert w ↦ ap (λ i. i.filter) w.self-inside-is
]

same_end : (g : _) (c : goal.After-self-1 g) → c.if-batch-self.self-inside.end ≡ c.self.inside.end
same_end g c = elim c.if-batch-self.branch [
  | then-batch-self+in_ok-reserve w ↦ ap (λ i. i.end) w.self-inside-is
  | else-batch-self+in_ok-insert w ↦ ap (λ i. i.end) w.self-inside-is
]

pub invariant_of-self-2 : goal.invariant_of-self-2
invariant_of-self-2 g c =
    let s = c.self.inside in
    let n = c.if-batch-self.self-inside in
    let end = c.max-self-inside.ensures ∙ ap (λ e. max e (c.args.batch.begin + c.args.batch.total)) (same_end g c) in
    subst (λ f. IsLaid f n.front n.pending c.max-self-inside.result) (sym (same_mode g c)) (laid_after s.filter s.front s.pending s.end c.self.invariant c.args.self.now c.self.view_is c.args.batch c.if-batch-eq0.false c.requires.free c.requires.whole n.front n.pending (lays g c) c.max-self-inside.result end)

pub returns-clause-ok : goal.returns-clause-ok
returns-clause-ok g c =
    let s = c.self.inside in
    let n = c.if-batch-self.self-inside in
    ap (λ f. record { filter = f; batches = batches_in n.front n.pending }) (same_mode g c) ∙ view_after s.filter s.front s.pending s.end c.self.invariant c.args.self.now c.self.view_is c.args.batch c.if-batch-eq0.false c.requires.free c.requires.whole n.front n.pending (lays g c)

pub returns-clause-kept : goal.returns-clause-kept
returns-clause-kept g c =
    let s = c.self.inside in
    let n = c.if-batch-self.self-inside in
    subst (λ f. KeepsResults c.args.self.now (record { filter = f; batches = batches_in n.front n.pending })) (sym (same_mode g c)) (kept_after s.filter s.front s.pending s.end c.self.invariant c.args.self.now c.self.view_is c.args.batch c.if-batch-eq0.false c.requires.free c.requires.whole n.front n.pending (lays g c))
