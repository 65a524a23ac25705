-- What becomes of an index block.
use Rattle.std.proofs.Common.{◌≡◌, ◌<◌, ℕ, zero, suc, ◌==◌, List, [], ◌∷◌, ◌++◌, inl, length, refl, ap, sym, ◌∙◌, subst, arith, cond, Bool, true, false}
use Rattle.std.specs.Prelude.{slice_index}
use Rattle.std.proofs.lemmas.Bool.Decides.{nat_tests}
use Rattle.block_format.specs.Words.{words}
use Rattle.vol_numbers.specs.declared.block.Block.{Block}
use Rattle.vol_numbers.specs.declared.runs.Page.{Page}
use Rattle.place_words.specs.Different.{times}
use Rattle.block_tree.specs.Tree.{index_at, nonzero}
use Rattle.block_tree.specs.Parts.{SameEntries}
use Rattle.block_tree.specs.Notes.{Noted}
use Rattle.block_tree.specs.Renewal.{IsRenewed}
use Rattle.block_tree.proofs.EntryLaws.{index_there, same_refl}
use Rattle.block_format.specs.Index.{index_bytes}
use Rattle.block_tree.proofs.UseLaws.{uses_none, uses_page}
use Rattle.block_tree.proofs.SoundLaws.{sound_same, sound_page}
use Rattle.block_tree.proofs.OrderLaws.{turn_none, turn_page, turn_like}
use Rattle.block_tree.proofs.NoteLaws.{times-append, refs-one, paged_more, stand_front, stand_last, takes_one}

-- where none leads to a block, each is 0
pub zero_each : (ptrs : List ℕ) → nonzero ptrs ≡ [] → (i : ℕ) → 0 ≡ slice_index ptrs i
zero_each [] e i = refl
zero_each (zero ∷ ps) e zero = refl
zero_each (zero ∷ ps) e (suc i) = zero_each ps e i
zero_each (suc p ∷ ps) e i = absurd (some_first (suc p == 0) refl e)
  where
    some_first : (t : Bool) → (suc p == 0) ≡ t → cond (Rattle.std.specs.Prelude.not t) (suc p ∷ nonzero ps) (nonzero ps) ≡ [] → ⊥
    some_first true is same = grind (arith, nat_tests, is)
    some_first false is same = cc

pub same_none : (ptrs : List ℕ) → nonzero ptrs ≡ [] → SameEntries [] ptrs
same_none ptrs e = record { each = zero_each ptrs e; some = sym e }

-- a pointer that leads to a block
nonzero_is : (x : ℕ) → 0 < x → nonzero (x ∷ []) ≡ x ∷ []
nonzero_is x lt = ap (λ (t : Bool). cond (Rattle.std.specs.Prelude.not t) (x ∷ []) []) (let t : (x == 0) ≡ false = grind (arith, nat_tests, lt) in t)

module _ (old : ℕ) (was ptrs : List ℕ) (m : Noted) where
  pub renewed_none : nonzero ptrs ≡ [] → IsRenewed old was ptrs 0 m (record m { dropped = m.dropped ++ nonzero (old ∷ []) })
  renewed_none none = record {
    entries = λ read stand same. same_none ptrs none;
    settles = record { each = λ b. omega (arith, times-append b m.dropped (nonzero (old ∷ []))) };
    takes = record { in_order = refl; grows = λ read stand. record { each = stand.each } };
    at_most = omega arith;
    spares = λ needs. refl;
    kept = λ is same some. absurd (some none);
    none = λ is. refl;
    indexes = λ b. omega arith;
    in_turn = turn_none [] m (record m { dropped = m.dropped ++ nonzero (old ∷ []) }) refl;
    uses = uses_none [] m (record m { dropped = m.dropped ++ nonzero (old ∷ []) }) refl refl;
    sound = λ g all is sound. (sound_same g m (record m { dropped = m.dropped ++ nonzero (old ∷ []) }) refl refl sound, inl refl);
  }

  pub renewed_kept : 0 < old → ptrs ≡ was → (nonzero ptrs ≡ [] → ⊥) → IsRenewed old was ptrs old m m
  renewed_kept there is some = record {
    entries = λ read stand same. subst (λ (xs : List ℕ). SameEntries (index_at read old) xs) (sym is) (same there);
    settles = record { each = λ b. refl };
    takes = record { in_order = refl; grows = λ read stand. stand };
    at_most = omega arith;
    spares = λ needs. refl;
    kept = λ there is some. (refl, refl);
    none = λ none. absurd (some none);
    indexes = λ b. omega arith;
    in_turn = turn_none (nonzero (old ∷ [])) m m refl;
    uses = uses_none [] m m refl refl;
    sound = λ g all is sound. (sound, is);
  }

  pub renewed_fresh : (at : ℕ) (left : List ℕ) (block : Block) → 0 < at → m.free ≡ at ∷ left → words block.bytes ≡ ptrs → block.bytes ≡ index_bytes ptrs → length ptrs ≡ 1024 → (0 < old → ptrs ≡ was → ⊥) → (nonzero ptrs ≡ [] → ⊥)
      → IsRenewed old was ptrs at m (record { free = left; pages = m.pages ++ record { at = at; block = block } ∷ []; added = m.added ++ at ∷ []; dropped = m.dropped ++ nonzero (old ∷ []) })
  renewed_fresh at left block some e reads_back spelled long other not_none =
      let page : Page = record { at = at; block = block } in
      record {
        entries = λ read stand same.
            let there : index_at read at ≡ ptrs = index_there read at ptrs (λ z. omega (arith, some, z)) (ap words (stand_last m.pages page read (record { each = stand.each })) ∙ reads_back) long in
            subst (λ (xs : List ℕ). SameEntries xs ptrs) (sym there) (same_refl ptrs);
        settles = record { each = λ b. omega (arith, times-append b m.dropped (nonzero (old ∷ [])), times-append b m.added (at ∷ []), ap (λ (xs : List ℕ). times b xs) (nonzero_is at some)) };
        takes = record { in_order = takes_one m.pages page m.free left e; grows = λ read stand. stand_front m.pages page read (record { each = stand.each }) };
        at_most = omega (arith, ap length e);
        spares = λ spare. absurd (spare (record { some = not_none; other = other }));
        kept = λ is same is_some. absurd (other is same);
        none = λ is. absurd (not_none is);
        indexes = λ b. omega (arith, refs-one b at, paged_more b m.pages page);
        in_turn = turn_like (sym (nonzero_is at some)) (turn_page m page left (m.added ++ at ∷ []) (m.dropped ++ nonzero (old ∷ [])));
        uses = uses_page m page left (m.dropped ++ nonzero (old ∷ []));
        sound = λ g all is sound. sound_page g m page ptrs left (m.added ++ at ∷ []) (m.dropped ++ nonzero (old ∷ [])) e long spelled all sound;
      }
