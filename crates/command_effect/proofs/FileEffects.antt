-- Effects that give a file another size.
use Rattle.std.proofs.Common.{◌≡◌, ℕ, suc, ◌+◌, ◌-◌, ◌*◌, ◌/◌, ◌%◌, ◌<◌, ◌≤◌, Bool, true, false, not, cond, List, [], ◌∷◌, ◌++◌, length, take, drop, map, Some, None, inl, inr, refl, sym, ap, subst, ◌∙◌, arith, slice_index_or, length-append}
use Rattle.std.specs.Prelude.{◌&&◌, All, min, replicate, Option, Ok, nat_eq, nat_lt}
use Rattle.std.specs.Option.{ForSome}
use Rattle.std.proofs.lemmas.Bool.{eqb-true}
use Rattle.std.proofs.lemmas.Bool.Decides.{nat_tests}
use Rattle.std.proofs.lemmas.Grind.{same_number_lists}
use Rattle.std.proofs.lemmas.List.{get_or-append_right, get_or_append_left, get_or-take, get_or-drop, get_or-replicate, get_or_past, length-take, length-replicate}
use Rattle.std.proofs.lemmas.List.Elements.{All-nil}
use Rattle.vol_numbers.specs.declared.block.Block.{Block}
use Rattle.block_format.specs.Inode.{blocks_of}
use Rattle.block_format.specs.declared.inode.Inode.{Inode}
use Rattle.dirty_store.specs.declared.effect.Effect.{Effect}
use Rattle.dirty_store.specs.declared.effect.SlotChange.{SlotChange}
use Rattle.dirty_store.specs.declared.effect.Touched.{Touched}
use Rattle.dirty_store.specs.Entries.{cut_at}
use Rattle.dirty_store.specs.Laws.{touched_with, first_of_two}
use Rattle.dirty_store.specs.Overlay.{IsEffect}
use Rattle.node_table.specs.Held.{Nodes}
use Rattle.node_table.specs.declared.change.Change.TheVariants.{Sized}
use Rattle.place_words.specs.Different.{up}
use Rattle.point_model.specs.Staging.{IsEffectOn}
use Rattle.point_plan.specs.State.{size_in}
use Rattle.state_laws.proofs.Bytes.{block_of, block_byte, block_length, is_less, is_not_less}
use Rattle.state_laws.proofs.FilesNumbered.{file_block}
use Rattle.tree_model.proofs.AttemptLaws.{put_at}
use Rattle.tree_model.proofs.ByteLaws.{length_resized}
use Rattle.tree_model.proofs.Fronts.{tie_itself}
use Rattle.tree_model.proofs.StepWidths.{keeps_tree}
use Rattle.tree_model.specs.Path.{Path}
use Rattle.tree_model.specs.Shape.{IsTree}
use Rattle.tree_model.specs.Step.{◌>>=◌, step, attempt, settled, refuse_if, bytes_of, written_tree}
use Rattle.tree_model.specs.Touched.{places, touched_by, where_accepted, written_places, truncated_places}
use Rattle.tree_model.specs.Tree.{Tree, node_at, with_node, resized, written}
use Rattle.tree_model.specs.declared.command.Command.{Command}
use Rattle.tree_model.specs.declared.command.Command.TheVariants.{Write, Truncate}
use Rattle.tree_model.specs.declared.node.Content.TheVariants.{File}
use Rattle.tree_model.specs.declared.node.Node.{Node}
use Rattle.tree_model.specs.declared.refusal.Refusal.TheVariants.{TooBig}
use Rattle.tree_model.specs.declared.reply.Reply.TheVariants.{Done}
use Rattle.node_table.proofs.WalkLaws.{walk_there}
use Rattle.volume_model.specs.Done.{is_cut, cut_to}
use Rattle.volume_model.specs.Machine.{Machine, block_at}
use Rattle.command_effect.specs.Blocks.{AreFrom, IsLaidOver, written_count, cut_count}
use Rattle.command_effect.specs.Effects.{ArePlacesWithin, CanDo, IsSizedEffect}
use Rattle.command_effect.proofs.BlockLaws.{all_from}
use Rattle.command_effect.proofs.NodeEffects.{touches_none}

-- ---- touched places one after another

module _ (Is : ℕ → List ℕ → Type 0) where
  spots_from : (number first : ℕ) (ts : List Touched) → AreFrom Is first ts → map (λ (t : Touched). (number, t.place)) ts ≡ places number first (length ts)
  unfolding places
  spots_from number first [] are = refl
  spots_from number first (t ∷ ts) are = λ i. (number, are.0 i) ∷ spots_from number (first + 1) ts are.2 i

  -- the block that a place is touched with is so
  with_from : (first : ℕ) (ts : List Touched) → AreFrom Is first ts → (place : ℕ) (block : Block) → touched_with ts place ≡ Some block → (first ≤ place) × (place < first + length ts) × Is place block.bytes
  with_from first [] are place block is = cc
  with_from first (t ∷ ts) are place block is = by (touched_with ts place) refl is (with_from (first + 1) ts are.2 place)
    where
      own : (u : Bool) → nat_eq t.place place ≡ u → cond u (Some t.block) None ≡ Some block → (first ≤ place) × (place < first + suc (length ts)) × Is place block.bytes
      own true same e =
          let at : first ≡ place = sym are.0 ∙ eqb-true t.place place same in
          let inner : t.block ≡ block = cc in
          (omega (arith, at), omega (arith, at), subst (λ (p : ℕ). Is p block.bytes) at (subst (λ (b : Block). Is first b.bytes) inner are.1))
      own false other e = cc

      by : (o : Option Block) → touched_with ts place ≡ o → first_of_two o (cond (nat_eq t.place place) (Some t.block) None) ≡ Some block
          → ((b : Block) → touched_with ts place ≡ Some b → (first + 1 ≤ place) × (place < first + 1 + length ts) × Is place b.bytes) → (first ≤ place) × (place < first + suc (length ts)) × Is place block.bytes
      by None none e more = own (nat_eq t.place place) refl e
      by (Some b) some e more =
          let inner : b ≡ block = cc in
          let there = more b some in
          (omega (arith, there.0), omega (arith, there.1), subst (λ (x : Block). Is place x.bytes) inner there.2)

-- ---- bytes after a write and a truncation

long : (bytes more : List ℕ) (offset : ℕ) → length (resized bytes offset ++ more) ≡ offset + length more
long bytes more offset = length-append (resized bytes offset) more ∙ ap (λ (n : ℕ). n + length more) (length_resized bytes offset)

resized_at : (bytes : List ℕ) (size i : ℕ) → i < size → slice_index_or (resized bytes size) i 0 ≡ slice_index_or bytes i 0
resized_at bytes size i less = by (nat_lt i (length bytes)) refl
  where
    kept : length (take size bytes) ≡ min size (length bytes)
    kept = length-take size bytes

    by : (t : Bool) → nat_lt i (length bytes) ≡ t → slice_index_or (resized bytes size) i 0 ≡ slice_index_or bytes i 0
    by true e =
        let below : i < length bytes = is_less i (length bytes) e in
        get_or_append_left (take size bytes) (replicate (size - length bytes) 0) 0 i (omega (arith, below, less, kept)) ∙ get_or-take size bytes i 0 less
    by false e =
        let past : length bytes ≤ i = is_not_less i (length bytes) e in
        get_or-append_right (take size bytes) (replicate (size - length bytes) 0) (length bytes) i 0 (omega (arith, kept, past, less)) past
        ∙ get_or-replicate (size - length bytes) (i - length bytes) 0 0 (omega (arith, past, less))
        ∙ sym (get_or_past bytes i 0 past)

written_before : (bytes more : List ℕ) (offset i : ℕ) → i < offset → slice_index_or (written bytes offset more) i 0 ≡ slice_index_or bytes i 0
written_before bytes more offset i less =
    get_or_append_left (resized bytes offset ++ more) (drop (offset + length more) bytes) 0 i (omega (arith, long bytes more offset, less))
    ∙ get_or_append_left (resized bytes offset) more 0 i (omega (arith, length_resized bytes offset, less))
    ∙ resized_at bytes offset i less

written_within : (bytes more : List ℕ) (offset i : ℕ) → offset ≤ i → i < offset + length more → slice_index_or (written bytes offset more) i 0 ≡ slice_index_or more (i - offset) 0
written_within bytes more offset i from less =
    get_or_append_left (resized bytes offset ++ more) (drop (offset + length more) bytes) 0 i (omega (arith, long bytes more offset, less))
    ∙ get_or-append_right (resized bytes offset) more offset i 0 (length_resized bytes offset) from

written_behind : (bytes more : List ℕ) (offset i : ℕ) → offset + length more ≤ i → slice_index_or (written bytes offset more) i 0 ≡ slice_index_or bytes i 0
written_behind bytes more offset i past =
    let at : offset + length more + (i - (offset + length more)) ≡ i = omega (arith, past) in
    get_or-append_right (resized bytes offset ++ more) (drop (offset + length more) bytes) (offset + length more) i 0 (long bytes more offset) past
    ∙ get_or-drop (offset + length more) bytes (i - (offset + length more)) 0
    ∙ ap (λ (j : ℕ). slice_index_or bytes j 0) at

-- a block over which a write is laid is that of the written file
pub laid_is : (bytes given : List ℕ) (offset place : ℕ) (block : List ℕ) → length block ≡ 4096 → IsLaidOver (block_of bytes place) offset given place block → block ≡ block_of (written bytes offset given) place
laid_is bytes given offset place block whole laid =
    same_number_lists block (block_of (written bytes offset given) place) (whole ∙ sym (block_length (written bytes offset given) place)) (λ j less.
    let small : j < 4096 = omega (arith, less, whole) in
    by j small (nat_lt (4096 * place + j) offset) refl (nat_lt (4096 * place + j) (offset + length given)) refl ∙ sym (block_byte (written bytes offset given) place j small))
  where
    by : (j : ℕ) → j < 4096 → (t : Bool) → nat_lt (4096 * place + j) offset ≡ t → (u : Bool) → nat_lt (4096 * place + j) (offset + length given) ≡ u → slice_index_or block j 0 ≡ slice_index_or (written bytes offset given) (4096 * place + j) 0
    by j small true low u e =
        let before = is_less (4096 * place + j) offset low in
        laid.outside j small (inl before) ∙ block_byte bytes place j small ∙ sym (written_before bytes given offset (4096 * place + j) before)
    by j small false low true e =
        let from = is_not_less (4096 * place + j) offset low in
        let less = is_less (4096 * place + j) (offset + length given) e in
        laid.inside j small from less ∙ sym (written_within bytes given offset (4096 * place + j) from less)
    by j small false low false e =
        let past = is_not_less (4096 * place + j) (offset + length given) e in
        laid.outside j small (inr past) ∙ block_byte bytes place j small ∙ sym (written_behind bytes given offset (4096 * place + j) past)

-- the block that a truncation cuts in two
pub cut_is : (bytes : List ℕ) (size : ℕ) → take (size % 4096) (block_of bytes (size / 4096)) ++ replicate (4096 - size % 4096) 0 ≡ block_of (resized bytes size) (size / 4096)
cut_is bytes size = same_number_lists (front ++ zeros) (block_of (resized bytes size) (size / 4096)) (both ∙ sym (block_length (resized bytes size) (size / 4096))) (λ j less.
    let small : j < 4096 = omega (arith, less, both) in
    by j small (nat_lt j (size % 4096)) refl ∙ sym (block_byte (resized bytes size) (size / 4096) j small))
  where
    front : List ℕ
    front = take (size % 4096) (block_of bytes (size / 4096))

    zeros : List ℕ
    zeros = replicate (4096 - size % 4096) 0

    front_long : length front ≡ size % 4096
    front_long = length-take (size % 4096) (block_of bytes (size / 4096)) ∙ omega (arith, block_length bytes (size / 4096))

    zeros_long : length zeros ≡ 4096 - size % 4096
    zeros_long = length-replicate {A = ℕ} (4096 - size % 4096) 0

    both : length (front ++ zeros) ≡ 4096
    both = length-append front zeros ∙ omega (arith, front_long, zeros_long)

    by : (j : ℕ) → j < 4096 → (t : Bool) → nat_lt j (size % 4096) ≡ t → slice_index_or (front ++ zeros) j 0 ≡ slice_index_or (resized bytes size) (4096 * (size / 4096) + j) 0
    by j small true e =
        let less = is_less j (size % 4096) e in
        get_or_append_left front zeros 0 j (omega (arith, less, front_long)) ∙ get_or-take (size % 4096) (block_of bytes (size / 4096)) j 0 less ∙ block_byte bytes (size / 4096) j small
        ∙ sym (resized_at bytes size (4096 * (size / 4096) + j) (omega (arith, less)))
    by j small false e =
        let past = is_not_less j (size % 4096) e in
        get_or-append_right front zeros (size % 4096) j 0 front_long past ∙ get_or-replicate (4096 - size % 4096) (j - size % 4096) 0 0 (omega (arith, past, small))
        ∙ sym (get_or_past (resized bytes size) (4096 * (size / 4096) + j) 0 (omega (arith, length_resized bytes size, past)))

-- ---- places are within

below_size : (offset size place : ℕ) (given : List ℕ) → offset + length given ≤ size → offset / 4096 ≤ place → place < offset / 4096 + written_count offset given → place < blocks_of size
below_size offset size place [] fits low high = absurd (omega (arith, low, high))
below_size offset size place (byte ∷ rest) fits low high = omega (arith, fits, low, high)

pub reaches : (path : Path) (offset : ℕ) (given : List ℕ) (number size : ℕ) (nodes : Nodes) → CanDo (Write path offset given) (Sized number size) nodes → offset + length given ≤ size
reaches path offset given number size nodes can = omega (arith, can.1.size_is)

module _ (Is : ℕ → List ℕ → Type 0) (whole : (place : ℕ) (bytes : List ℕ) → Is place bytes → length bytes ≡ 4096) (offset size number : ℕ) (given : List ℕ) (e : Effect) (ts : List Touched)
    (are : AreFrom Is (offset / 4096) ts) (many : length ts ≡ written_count offset given) (fits : offset + length given ≤ size) (sized : IsSizedEffect number size None e) (touched_is : e.touched ≡ ts) where
  below : (t : Touched) → offset / 4096 ≤ t.place → t.place < offset / 4096 + length ts → t.place < blocks_of size
  below t low high = below_size offset size t.place given fits low (subst (λ (n : ℕ). t.place < offset / 4096 + n) many high)

  pub written_places_within : ArePlacesWithin e
  written_places_within = record {
    below = subst (λ (xs : List Touched). All (λ (t : Touched). t.place < blocks_of (size_in e.inode)) xs) (sym touched_is)
        (subst (λ (n : Inode). All (λ (t : Touched). t.place < blocks_of (size_in n)) ts) (sym sized.inode_is) (all_from Is (λ t. t.place < blocks_of size) (offset / 4096) ts are (λ t low high is. below t low high)));
    whole = subst (λ (xs : List Touched). All (λ (t : Touched). length t.block.bytes ≡ 4096) xs) (sym touched_is) (all_from Is (λ t. length t.block.bytes ≡ 4096) (offset / 4096) ts are (λ t low high is. whole t.place t.block.bytes is));
  }

  pub written_is_effect : size ≤ 4294967296 → IsEffect e
  written_is_effect largest = record {
    cut = subst (λ (o : Option ℕ). ForSome o (λ (blocks : ℕ). blocks ≤ 1048576)) (sym sized.cut_is) (λ x e. cc);
    touched = subst (λ (xs : List Touched). All (λ (t : Touched). t.place < 1048576) xs) (sym touched_is)
        (all_from Is (λ t. t.place < 1048576) (offset / 4096) ts are (λ t low high is. omega (arith, below t low high, largest)));
    slots = subst (λ (xs : List SlotChange). All (λ (c : SlotChange). c.slot < 65534) xs) (sym sized.slots_are) (All-nil (λ (c : SlotChange). c.slot < 65534));
  }

-- ---- the tree after the command

put_there : (tree : Tree) (path : Path) (node : Node) → node_at (with_node tree path node) path ≡ Some node
put_there tree path node = put_at tree path node path ∙ ap (λ (t : Bool). cond t (Some node) (node_at tree path)) (tie_itself path)

step_is : (tree : Tree) (command : Command) (after : Tree) → attempt tree command ≡ Ok (Done, after) → (step tree command).1 ≡ after
unfolding step
step_is tree command after e = ap (λ r. (settled tree r).1) e

small_enough : (n : ℕ) → n ≤ 4294967296 → nat_lt 4294967296 n ≡ false
small_enough n le = grind (arith, nat_tests)

module _ (m : Machine) (h : IsTree m.tree) (path : Path) (number : ℕ) (bytes : List ℕ) (stands : node_at m.tree path ≡ Some (record { number = number; content = File bytes })) where
  abbrev tree : Tree
  tree = m.tree

  abbrev node : Node
  node = record { number = number; content = File bytes }

  write_goes : (offset : ℕ) (given : List ℕ) → offset + length given ≤ 4294967296 → attempt tree (Write path offset given) ≡ Ok (Done, written_tree tree path number bytes offset given)
  write_goes offset given le =
      (λ i. walk_there tree h path node stands i >>= (λ n. bytes_of n.content >>= (λ bs. refuse_if (nat_lt 4294967296 (offset + length given)) TooBig >>= (λ _. Ok (Done, written_tree tree path n.number bs offset given)))))
      ∙ (λ i. refuse_if (small_enough (offset + length given) le i) TooBig >>= (λ _. Ok (Done, written_tree tree path number bytes offset given)))

  truncate_goes : (size : ℕ) → size ≤ 4294967296 → attempt tree (Truncate path size) ≡ Ok (Done, with_node tree path (record { number = number; content = File (resized bytes size) }))
  truncate_goes size le =
      (λ i. walk_there tree h path node stands i >>= (λ n. bytes_of n.content >>= (λ bs. refuse_if (nat_lt 4294967296 size) TooBig >>= (λ _. Ok (Done, with_node tree path (record { number = n.number; content = File (resized bs size) }))))))
      ∙ (λ i. refuse_if (small_enough size le i) TooBig >>= (λ _. Ok (Done, with_node tree path (record { number = number; content = File (resized bytes size) }))))

  old_block : (place : ℕ) → block_at tree (number, place) ≡ block_of bytes place
  old_block place = file_block tree (number, place) bytes h (record { path = path; stands = stands })

  new_block : (command : Command) (content : List ℕ) (place : ℕ) → attempt tree command ≡ Ok (Done, with_node tree path (record { number = number; content = File content })) → block_at (step tree command).1 (number, place) ≡ block_of content place
  new_block command content place goes = file_block (step tree command).1 (number, place) content (keeps_tree tree command h) (record {
    path = path;
    stands = ap (λ (t : Tree). node_at t path) (step_is tree command _ goes) ∙ put_there tree path (record { number = number; content = File content });
  })

  abbrev pub IsWritten : ℕ → List ℕ → ℕ → List ℕ → Type 0
  IsWritten offset given place block = (length block ≡ 4096) × IsLaidOver (block_at tree (number, place)) offset given place block

  pub write_on : (offset : ℕ) (given : List ℕ) (e : Effect) → offset + length given ≤ 4294967296 → e.number ≡ number → e.cut_to ≡ None → AreFrom (IsWritten offset given) (offset / 4096) e.touched
      → length e.touched ≡ written_count offset given → IsEffectOn m (Write path offset given) e
  write_on offset [] e le number_is cut are many = touches_none m (Write path offset []) e (none e.touched many) refl (λ spot is. ap (λ (o : Option ℕ). is_cut (cut_at e.number o) spot) cut)
    where
      none : (ts : List Touched) → length ts ≡ 0 → ts ≡ []
      none [] is = refl
      none (t ∷ ts) is = cc
  write_on offset (byte ∷ rest) e le number_is cut are many = record {
    touches = spots_from (IsWritten offset (byte ∷ rest)) e.number (offset / 4096) e.touched are ∙ (λ i. places (number_is i) (offset / 4096) (many i))
        ∙ sym (ap (λ r. where_accepted r (touched_by tree (Write path offset (byte ∷ rest)))) (write_goes offset (byte ∷ rest) le) ∙ ap (λ (o : Option Node). written_places o offset (length (byte ∷ rest))) stands);
    bytes = λ place block is.
        (let there = (with_from (IsWritten offset (byte ∷ rest)) (offset / 4096) e.touched are place block is).2 in
        laid_is bytes (byte ∷ rest) offset place block.bytes there.0 (subst (λ (old : List ℕ). IsLaidOver old offset (byte ∷ rest) place block.bytes) (old_block place) there.1)
        ∙ sym (ap (λ (n : ℕ). block_at (step tree (Write path offset (byte ∷ rest))).1 (n, place)) number_is ∙ new_block (Write path offset (byte ∷ rest)) (written bytes offset (byte ∷ rest)) place (write_goes offset (byte ∷ rest) le)));
    cuts = λ spot is. ap (λ (o : Option ℕ). is_cut (cut_at e.number o) spot) cut;
  }

  abbrev pub IsCut : ℕ → ℕ → List ℕ → Type 0
  IsCut size place block = block ≡ take (size % 4096) (block_at tree (number, place)) ++ replicate (4096 - size % 4096) 0

  cut_spots : (size : ℕ) (t : Bool) → places number (size / 4096) (cond t 1 0) ≡ cond t ((number, size / 4096) ∷ []) []
  unfolding places
  cut_spots size true = refl
  cut_spots size false = refl

  few : (size : ℕ) → cut_count (length bytes) size ≤ 1
  few size = by (nat_lt size (length bytes) && not (nat_eq (size % 4096) 0))
    where
      by : (t : Bool) → cond t 1 0 ≤ 1
      by true = omega arith
      by false = omega arith

  pub truncate_on : (size : ℕ) (e : Effect) → size ≤ 4294967296 → e.number ≡ number → e.cut_to ≡ Some (up size 4096) → AreFrom (IsCut size) (size / 4096) e.touched
      → length e.touched ≡ cut_count (length bytes) size → IsEffectOn m (Truncate path size) e
  truncate_on size e le number_is cut are many = record {
    touches = spots_from (IsCut size) e.number (size / 4096) e.touched are ∙ (λ i. places (number_is i) (size / 4096) (many i)) ∙ cut_spots size (nat_lt size (length bytes) && not (nat_eq (size % 4096) 0))
        ∙ sym (ap (λ r. where_accepted r (touched_by tree (Truncate path size))) (truncate_goes size le) ∙ ap (λ (o : Option Node). truncated_places o size) stands);
    bytes = λ place block is.
        (let there = with_from (IsCut size) (size / 4096) e.touched are place block is in
        let at : place ≡ size / 4096 = omega (arith, there.0, there.1, many, few size) in
        there.2 ∙ ap (λ (xs : List ℕ). take (size % 4096) xs ++ replicate (4096 - size % 4096) 0) (old_block place) ∙ ap (λ (p : ℕ). take (size % 4096) (block_of bytes p) ++ replicate (4096 - size % 4096) 0) at
        ∙ cut_is bytes size ∙ ap (block_of (resized bytes size)) (sym at)
        ∙ sym (ap (λ (n : ℕ). block_at (step tree (Truncate path size)).1 (n, place)) number_is ∙ new_block (Truncate path size) (resized bytes size) place (truncate_goes size le)));
    cuts = λ spot is.
        (λ i. is_cut (cut_at (number_is i) (cut i)) spot) ∙ sym (ap (λ (o : Option Node). is_cut (cut_to (up size 4096) o) spot) stands);
  }
