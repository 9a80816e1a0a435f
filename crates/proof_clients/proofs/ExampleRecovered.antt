-- What recovery makes of the images of the examples.
use Rattle.std.proofs.Common.{◌≡◌, ℕ, ◌+◌, ◌==◌, true, List, [], ◌∷◌, Some, nat_cmp, refl, ap, ◌∙◌, eq-eqb}
use Rattle.std.specs.Option.{option_or}
use Rattle.std.specs.FinMap as map
use Rattle.jb_disk.specs.Image.{Image, block}
use Rattle.jb_super.specs.Superblock.{Superblock}
use Rattle.jb_scan.specs.Effect.{effect}
use Rattle.jb_handle.specs.Words.{word}
use Rattle.jb_handle.specs.declared.word.Word.TheVariants.{Copy}
use Rattle.jb_recover.specs.Outcomes.{recovered}
use Rattle.jb_recover.proofs.RecoveredImage.{recovered-is, own-clean, own-clean_refusal}
use Rattle.jb_log.specs.Follows.{Follows}
use Rattle.proof_clients.specs.Examples.{copies_at, wrote}
use Rattle.proof_clients.specs.ExampleCrashes.{HasLog, copied_twice}
use Rattle.proof_clients.specs.ExampleRecovered.{IsClean, homes_on}

module _ (size count : ℕ) (sb : Superblock) (c : Image) where
  -- home 5 once it is recovered, where the log has two copies for it
  pub newer-there : (older newer : List ℕ) → HasLog size count sb (copied_twice older newer) c → block (recovered size count c) (sb.maxlen + 5) ≡ newer
  newer-there older newer has =
      let is = recovered-is size count c sb has.blocks has.taken has.not_refused in
      is.home 5 has.homes ∙ ap (λ ts. effect 5 (block c (sb.maxlen + 5)) ts) has.found

  module _ (is : IsClean size count sb c) where
    pub start-zero : (sb.start == 0) ≡ true
    start-zero = eq-eqb sb.start 0 is.clean

    -- a clean image stays
    pub still : recovered size count c ≡ c
    still = own-clean size count sb c is.taken start-zero

    pub clean-follows : Follows sb size count (homes_on sb c) [] c
    clean-follows = record {
      sb = sb;
      same = refl;
      taken = is.taken;
      not_refused = own-clean_refusal size count sb c is.taken start-zero;
      each = λ home. ap (λ d. block d (sb.maxlen + home)) still;
    }

-- the last word of one handle, or of two, that wrote home 5
pub copy-five : (bytes : List ℕ) (ticket : ℕ) → map.get (wrote bytes ticket (5 ∷ [])).words 5 ≡ Some (Copy bytes)
copy-five bytes ticket = map.get-from_sorted nat_cmp (copies_at bytes (5 ∷ [])) 5 tt

pub word-one : (bytes : List ℕ) (ticket : ℕ) → word (wrote bytes ticket (5 ∷ []) ∷ []) 5 ≡ Some (Copy bytes)
word-one bytes ticket = copy-five bytes ticket

pub word-two : (newer older : List ℕ) → word (wrote newer 0 (5 ∷ []) ∷ wrote older 1 (5 ∷ []) ∷ []) 5 ≡ Some (Copy older)
word-two newer older = ap (λ o. option_or o (map.get (wrote newer 0 (5 ∷ [])).words 5)) (copy-five older 1)
