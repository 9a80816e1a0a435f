use Rattle.std.proofs.Common.{◌≡◌, ℕ, ◌≤◌, false, Bool, Option, List, [], ◌∷◌, length, take, Less, refl, sym, ap, ◌∙◌, arith, take_all, ◌<◌}
use Rattle.std.specs.List.{list_any, AllByRecursion}
use Rattle.std.specs.List.Sorted.{IsStrictlySortedBy}
use Rattle.std.specs.Ordering.{nat_cmp, eq_by_cmp}
use Rattle.std.specs.Cmp.{nat_cmp_total}
use Rattle.std.specs.BTreeSet as tree
use Rattle.std.specs.BTreeSet.{BTreeSet}
use Rattle.std.specs.FinSet as set
use Rattle.jb_handle.specs.declared.stopped.Stopped.{Stopped}
use Rattle.jb_handle.specs.Words.{word, is_copied, is_freed, copies, frees}
use Rattle.jb_handle.specs.declared.word.Word.{Word}
use Rattle.std.proofs.lemmas.List.{get_or_read}
use Rattle.jb_cost.specs.Cost.{blocks_of}
use Rattle.jb_cost.proofs.HandleWords.{later-handle}
use Rattle.jb_cost.proofs.HandleInFront.{few}
use Rattle.jb_handle.proofs.TouchedHomes.{contains-copies, contains-frees}
use Rattle.jb_block.proofs.Refusals.{on-refusal}
use Rattle.jb_cost.proofs.group.group_cost.Goals as goal
use Rattle.jb_cost.proofs.group.group_cost.Goals.{After-len-2}

none-above : (b : ℕ) (ks : List ℕ) → AllByRecursion (λ k. nat_cmp b k ≡ Less) ks → list_any (eq_by_cmp nat_cmp b) ks ≡ false
none-above b [] h = refl
none-above b (k ∷ ks) h = rw (h.0, none-above b ks h.1) refl

len-rising : (ks : List ℕ) → IsStrictlySortedBy nat_cmp ks → set.len (set.from_list {R = nat_cmp} ks) ≡ length ks
unfolding IsStrictlySortedBy
len-rising [] h = set.len-empty nat_cmp
len-rising (k ∷ ks) h =
    set.len-insert nat_cmp_total _ k
    ∙ rw (set.contains-from_list nat_cmp_total ks k, none-above k ks h.0, len-rising ks h.1) (omega arith)

-- a tree that agrees with the last words of all handles has as many keys as the set of their homes
len-of_words : (kind : Option Word → Bool) (s : BTreeSet ℕ) → tree.IsOrdered nat_cmp s → (hs : List Stopped) (i : ℕ) → length hs ≤ i → (t : set.FinSet nat_cmp) → ((q : ℕ) → set.contains t q ≡ kind (word hs q))
    → ((q : ℕ) → tree.contains nat_cmp s q ≡ kind (word (take i hs) q)) → tree.btree_set_len s ≡ set.len t
len-of_words kind s ordered hs i whole t is agree =
    sym (len-rising s.keys ordered)
    ∙ ap set.len (set.same_set nat_cmp_total set.nat_cmp-IsAntisymmetric (set.from_list s.keys) t (λ q.
    set.contains-from_list nat_cmp_total s.keys q ∙ agree q ∙ ap (λ gs. kind (word gs q)) (take_all i hs whole) ∙ sym (is q)))

pub loop-handle-preserved : goal.loop-handle-preserved
loop-handle-preserved c =
    let inside : c.loop-handle.handle-index < length c.args.handles.now = omega arith in
    record {
      copies = λ q. c.in_ok-put_all.ensures.copies q ∙ later-handle is_copied c.args.handles.now _ c.handle-item.result c.handle-item.is inside q _ (c.loop-handle.invariant.copies q);
      frees = λ q. c.in_ok-put_all.ensures.frees q ∙ later-handle is_freed c.args.handles.now _ c.handle-item.result c.handle-item.is inside q _ (c.loop-handle.invariant.frees q);
    }

counts : (c : After-len-2) → (c.len.result ≡ set.len (copies c.args.handles.now)) × (c.len-2.result ≡ set.len (frees c.args.handles.now))
counts c =
    let whole : length c.args.handles.now ≤ c.loop-handle.handle-index = omega arith in (
      c.len.ensures.len ∙ len-of_words is_copied _ c.len.ensures.ordered c.args.handles.now _ whole _ (contains-copies c.args.handles.now) c.loop-handle.invariant.copies,
      c.len-2.ensures.len ∙ len-of_words is_freed _ c.len-2.ensures.ordered c.args.handles.now _ whole _ (contains-frees c.args.handles.now) c.loop-handle.invariant.frees,
    )

pub blocks-cost-requires : goal.blocks-cost-requires
blocks-cost-requires c = let both = counts c in record { small = omega (arith, both.0, both.1, few c.args.handles.now, c.requires.size) }

pub returns-clause-blocks : goal.returns-clause-blocks
returns-clause-blocks c = let both = counts (goal.at.returns-clause-blocks c).After-len-2 in c.blocks-cost.ensures ∙ (λ i. blocks_of c.args.geometry (both.0 i) (both.1 i))

pub returns-in_err-put_all-clause-grows : goal.returns-in_err-put_all-clause-grows
returns-in_err-put_all-clause-grows c =
    let inside : c.loop-handle.handle-index < length c.args.handles.now = omega arith in
    on-refusal c.from_residual.result (c.loop-handle.handle-index, c.handle-item.result, inside, sym (get_or_read c.args.handles.now _ _ inside c.handle-item.is _), c.in_err-put_all.ensures.grows)
