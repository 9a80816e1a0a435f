use Rattle.std.proofs.Common.{◌≡◌, ℕ, List, Result, Ok, Err, OnOk, OnErr, nat_cmp, ap, ◌∙◌}
use Rattle.std.specs.FinMap as map
use Rattle.std.proofs.lemmas.Result.{IfErr-weaker, IfOk-weaker}
use Rattle.jb_handle.specs.Word.{AreWords, HasBytes}
use Rattle.jb_handle.specs.declared.word.Word.{Word}
use Rattle.jb_handle.proofs.EachWord.{put-words}
use Rattle.jb_handle.proofs.RisingHomes.{view-put, view-get}
use Rattle.jb_handle.proofs.words.Words.put.Goals as goal

-- the entries are words, whatever the call answers
still-words : {A E : Type 0} (r : Result A E) (es fs : List (ℕ × Word)) → AreWords es → (b : ℕ) (w : Word) → HasBytes w → OnOk r (map.put nat_cmp b w es ≡ fs) → OnErr r (fs ≡ es) → AreWords fs
still-words (Ok x) es fs are b w fit put same = put-words es fs are b w fit put
still-words (Err e) es fs are b w fit put same = rw same are

pub invariant_of-self : goal.invariant_of-self
invariant_of-self c =
    still-words c.put_entry.result c.self.inside.entries.items _ c.self.invariant c.args.home c.args.word c.holds_bytes.ensures c.put_entry.ensures.ok c.put_entry.ensures.err

pub returns-clause-ok : goal.returns-clause-ok
returns-clause-ok c =
    IfOk-weaker c.put_entry.result _ _ (λ _ put. (view-put c.self.inside.entries.items _ _ c.self.view_is c.self.invariant.rising c.args.home c.args.word put).1) c.put_entry.ensures.ok

pub returns-clause-err : goal.returns-clause-err
returns-clause-err c = IfErr-weaker c.put_entry.result _ _ (λ _ same. ap map.from_sorted same ∙ c.self.view_is) c.put_entry.ensures.err

-- no room is needed where the home has a word
pub returns-clause-new : goal.returns-clause-new
returns-clause-new c = IfErr-weaker c.put_entry.result _ _ (λ _ none. view-get _ _ c.self.view_is c.self.invariant.rising c.args.home ∙ none) c.put_entry.ensures.new
