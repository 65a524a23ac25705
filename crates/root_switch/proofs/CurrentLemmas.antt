-- The current root of an image, from the block of its slot.
use Rattle.std.proofs.Common.{◌≡◌, ◌∙◌, ◌+◌, ◌<◌, ◌≤◌, ℕ, zero, suc, List, [], ◌∷◌, length, Option, Some, refl, sym, ap, subst, arith}
use Rattle.std.specs.Prelude.{slice_get, unwrap_or, IfSome}
use Rattle.vol_numbers.specs.Block.{zero_block}
use Rattle.vol_numbers.specs.declared.block.Block.{Block}
use Rattle.block_format.specs.declared.root.RootBody.{RootBody}
use Rattle.block_format.specs.Root.{root_of, root_in, root_bytes, SpellsRoot}
use Rattle.root_switch.specs.Current.{current_slot, root_bytes_in, root_of_image, HasRoot}

-- there is an item at each index below the length
item_at : {X : Type 0} (xs : List X) (i : ℕ) → i < length xs → (x : X) × (slice_get xs i ≡ Some x)
item_at [] i lt = absurd (omega arith)
item_at (x ∷ xs) zero lt = (x, refl)
item_at (x ∷ xs) (suc i) lt = item_at xs i (omega arith)

of_some : {X : Type 0} (P : X → Type 0) (o : Option X) (x : X) → o ≡ Some x → IfSome o P → P x
of_some P o x e p = subst (λ (v : Option _). IfSome v P) e p

module _ (image : List Block) (slot : ℕ) (slot_is : slot ≡ current_slot image) (is_slot : slot < 2) (slots : 3 ≤ length image) where
  abbrev item : (x : Block) × (slice_get image (1 + slot) ≡ Some x)
  item = item_at image (1 + slot) (omega (arith, is_slot, slots))

  -- the bytes of the current slot are those of this block
  bytes_are : root_bytes_in image ≡ item.0.bytes
  bytes_are = ap (λ (k : ℕ). (unwrap_or (slice_get image (1 + k)) zero_block).bytes) (sym slot_is) ∙ ap (λ (o : Option Block). (unwrap_or o zero_block).bytes) item.1

  pub root_found : (body : RootBody) → IfSome (slice_get image (1 + slot)) (λ block. SpellsRoot body block) → IfSome (slice_get image (1 + slot)) (λ block. root_of body ≡ root_in block.bytes)
      → HasRoot image × (root_of body ≡ root_of_image image)
  root_found body spells fields =
      let spelled : SpellsRoot body item.0 = of_some (λ (b : Block). SpellsRoot body b) _ item.0 item.1 spells in
      let same : root_of body ≡ root_in item.0.bytes = of_some (λ (b : Block). root_of body ≡ root_in b.bytes) _ item.0 item.1 fields in
      let same_in : root_of body ≡ root_of_image image = same ∙ ap root_in (sym bytes_are) in
      (record { slots = slots; shape = bytes_are ∙ spelled.spelled ∙ ap root_bytes same_in }, same_in)
