-- A run of what a crash has left of another run.
use Rattle.std.proofs.Common.{◌≡◌, ℕ, zero, suc, ◌<◌, All, List, [], ◌∷◌, length, slice_get, take, Some, sym, ap, subst, ◌∙◌, arith, ⊎_elim}
use Rattle.std.proofs.lemmas.List.{take-take}
use Rattle.std.proofs.lemmas.List.Elements.{All-take}
use Rattle.jb_block.specs.Size.{bytes_of}
use Rattle.jb_disk.specs.Image.{Image}
use Rattle.jb_disk.specs.File.{content_of, count_of, size_of_blocks}
use Rattle.jb_image.specs.Create.{WasMade}
use Rattle.jb_recover.specs.Outcomes.{recovered}
use Rattle.jb_journal.specs.Names.{FileDisk, ImageGeometry, Starts}
use Rattle.jb_journal.specs.OpenFile.{WasRecovered, WasRecoveredOrMade}
use Rattle.jb_journal.specs.declared.ran.Ran.{Ran}
use Rattle.example_store.specs.Commands.{HasKey, LeavesKey, after_commands}
use Rattle.example_store.specs.Keeps.{begun_changes}
use Rattle.example_store.specs.Maps.{Mapping, map_in_file, map_on}
use Rattle.example_store.specs.NextRun.{IsRunAgain, SecondRunFindsPut, SecondRunGoesOn}
use Rattle.example_store.specs.Serves.{replied_among}
use Rattle.example_store.specs.declared.command.Command.{Command}
use Rattle.example_store.specs.declared.command.Command.TheVariants.{Get}
use Rattle.example_store.specs.declared.served.Served.{Served}
use Rattle.example_store.proofs.CommandLemmas.{Agree, agree-replies, found-there, put-there}

slice-take : {A : Type 0} (xs : List A) (n k : ℕ) (x : A) → k < n → slice_get xs k ≡ Some x → slice_get (take n xs) k ≡ Some x
slice-take [] n k x lt at = absurd (cc)
slice-take (y ∷ xs) zero k x lt at = absurd (omega arith)
slice-take (y ∷ xs) (suc n) zero x lt at = at
slice-take (y ∷ xs) (suc n) (suc k) x lt at = slice-take xs n k x (omega (arith, lt)) at

-- the blocks of a file that was opened or made have the size that was asked for
sized-as : {S : Type 0} {start : Starts S} (geometry : ImageGeometry) (f : FileDisk S start) → WasRecoveredOrMade geometry f → bytes_of (size_of_blocks f) ≡ bytes_of geometry.block_size
sized-as geometry f ready = ⊎_elim
    (λ (is : WasRecovered geometry.block_size f). is.sized)
    (λ (made : WasMade geometry f). made.1.formatted.kept.same_size ∙ ap bytes_of made.1.size)
    ready

module _ {S T : Type 0} (start : Starts S) (after : Starts T) where
  module _ (geometry : ImageGeometry) (commands more : List Command) (ran : Ran Served (FileDisk S start)) (again : Ran Served (FileDisk T after)) (change : ℕ) (is : IsRunAgain start after geometry commands more ran again change) where
    abbrev left : Image
    left = after.content 0

    abbrev size : ℕ
    size = bytes_of (size_of_blocks is.first.opened)

    abbrev blocks : ℕ
    blocks = count_of is.first.opened

    same-size : bytes_of (size_of_blocks is.second.opened) ≡ size
    same-size = is.ready.sized ∙ sym (sized-as geometry is.first.opened is.first.ready)

    -- the second run begins with what recovery made of what the crash had left
    begins : content_of is.second.opened ≡ recovered size blocks left
    begins =
        (is.ready.recovers is.honest_then).1.3
        ∙ ap (λ (x : ℕ × ℕ). recovered x.0 x.1 left) (λ i. ((sym is.ready.sized ∙ same-size) i, is.as_many i))

  pub second-goes-on : SecondRunGoesOn start after
  second-goes-on geometry commands more ran again change is =
      let was = is.first.keeps in
      let now = is.second.keeps in
      let first : Mapping = map_in_file is.first.opened in
      let says = was.stays is.honest is.keys change is.number is.replied is.noted (after.content 0) is.left in
      let agree : Agree (map_in_file is.second.opened) (after_commands first (take says.many (begun_changes commands was.served))) =
      λ key some.
      ap (λ (x : (ℕ × ℕ) × Image). map_on x.0.0 x.0.1 x.1 key)
      (λ i. ((same-size geometry commands more ran again change is i, is.as_many i), begins geometry commands more ran again change is i))
      ∙ says.again key some in (
        says.many,
        says.from,
        says.to,
        now.told is.honest_again is.more_keys
            ∙ agree-replies _ _ (replied_among more now.served.replies.items) (All-take HasKey (length now.served.replies.items) more is.more_keys) agree,
      )

  pub second-finds : SecondRunFindsPut start after
  second-finds geometry commands more ran again change is key value get at left asked kept within =
      let on = second-goes-on geometry commands more ran again change is in
      let was = is.first.keeps in
      let now = is.second.keeps in
      let first : Mapping = map_in_file is.first.opened in
      let changes = begun_changes commands was.served in
      let n : ℕ = length now.served.replies.items in
      let least = on.1 in
      let has : after_commands first (take on.0 changes) key ≡ Some value = put-there first changes key value change on.0 at (omega (arith, least)) left in
      ap (λ replies. slice_get replies get) on.3
      ∙ found-there (after_commands first (take on.0 changes)) (take n more) key value get (slice-take more n get (Get key) within asked)
      (subst (All (LeavesKey key)) (sym (take-take get n more (omega (arith, within)))) kept) has
