-- The text of no answer that is given for now begins another's.
use Rattle.std.proofs.Common.{◌≡◌, ◌∙◌, ◌++◌, ℕ, Option, Some, None, List, [], get_or, refl, sym, ap, arith}
use Rattle.std.proofs.lemmas.List.{append-nil}
use Rattle.tree_model.specs.declared.refusal.Refusal.{Refusal}
use Rattle.tree_model.specs.declared.refusal.Refusal.TheVariants.{BadCommand, BadName, NotFound, NotADirectory, IsADirectory, Exists, RootFixed, Inside, NotEmpty, TooBig, NoNumbers, NoSpace, DeviceFault, Damaged, OutOfMemory}
use Rattle.tree_model.specs.declared.reply.Reply.{Reply}
use Rattle.tree_model.specs.declared.reply.Reply.TheVariants.{Done, Data, Entries, Stat, Layout, Space, Refused}
use Rattle.tree_model.specs.declared.report.Report.{Report}
use Rattle.tree_model.specs.declared.report.Answer.{Answer}
use Rattle.reply_text.specs.Replies.{refusal_text, reply_text, report_text}
use Rattle.reply_text.specs.Telling.{NoneBeginsAnother}
use Rattle.volume_model.specs.Short.{answered, point_short}
use Rattle.session_model.specs.Given.{short_text}
use Rattle.session_model.specs.CourseLaws.{GivenAreTold}

-- the byte at this place is another one
other : (place : ℕ) (x y : List ℕ) → x ≡ y → get_or x place 0 ≡ get_or y place 0
other place x y same = ap (λ (t : List ℕ). get_or t place 0) same

is_no_refusal : (refusal : Refusal) (x y : List ℕ) → refusal_text refusal ++ x ≡ short_text ++ y → ⊥
is_no_refusal BadCommand x y same = let e : ◌≡◌ {A = ℕ} 32 55 = other 9 _ _ same in omega arith
is_no_refusal BadName x y same = let e : ◌≡◌ {A = ℕ} 50 49 = other 8 _ _ same in omega arith
is_no_refusal NotFound x y same = let e : ◌≡◌ {A = ℕ} 51 49 = other 8 _ _ same in omega arith
is_no_refusal NotADirectory x y same = let e : ◌≡◌ {A = ℕ} 52 49 = other 8 _ _ same in omega arith
is_no_refusal IsADirectory x y same = let e : ◌≡◌ {A = ℕ} 53 49 = other 8 _ _ same in omega arith
is_no_refusal Exists x y same = let e : ◌≡◌ {A = ℕ} 54 49 = other 8 _ _ same in omega arith
is_no_refusal RootFixed x y same = let e : ◌≡◌ {A = ℕ} 55 49 = other 8 _ _ same in omega arith
is_no_refusal Inside x y same = let e : ◌≡◌ {A = ℕ} 56 49 = other 8 _ _ same in omega arith
is_no_refusal NotEmpty x y same = let e : ◌≡◌ {A = ℕ} 57 49 = other 8 _ _ same in omega arith
is_no_refusal TooBig x y same = let e : ◌≡◌ {A = ℕ} 48 55 = other 9 _ _ same in omega arith
is_no_refusal NoNumbers x y same = let e : ◌≡◌ {A = ℕ} 49 55 = other 9 _ _ same in omega arith
is_no_refusal (NoSpace free need) x y same = let e : ◌≡◌ {A = ℕ} 50 55 = other 9 _ _ same in omega arith
is_no_refusal DeviceFault x y same = let e : ◌≡◌ {A = ℕ} 51 55 = other 9 _ _ same in omega arith
is_no_refusal (Damaged block) x y same = let e : ◌≡◌ {A = ℕ} 52 55 = other 9 _ _ same in omega arith
is_no_refusal OutOfMemory x y same = let e : ◌≡◌ {A = ℕ} 53 55 = other 9 _ _ same in omega arith

is_no_reply : (given : Reply) (x y : List ℕ) → reply_text given ++ x ≡ short_text ++ y → ⊥
is_no_reply Done x y same = let e : ◌≡◌ {A = ℕ} 111 114 = other 0 _ _ same in omega arith
is_no_reply (Data bytes) x y same = let e : ◌≡◌ {A = ℕ} 100 114 = other 0 _ _ same in omega arith
is_no_reply (Entries entries) x y same = let e : ◌≡◌ {A = ℕ} 108 114 = other 0 _ _ same in omega arith
is_no_reply (Stat kind number size) x y same = let e : ◌≡◌ {A = ℕ} 115 114 = other 0 _ _ same in omega arith
is_no_reply (Layout pieces) x y same = let e : ◌≡◌ {A = ℕ} 108 114 = other 0 _ _ same in omega arith
is_no_reply (Space free pending log) x y same = let e : ◌≡◌ {A = ℕ} 115 114 = other 0 _ _ same in omega arith
is_no_reply (Refused refusal) x y same = is_no_refusal refusal x y same

is_no_answer : (report : Option Report) (given : Reply) (x y : List ℕ) → (report_text report ++ reply_text given) ++ x ≡ short_text ++ y → ⊥
is_no_answer None given x y same = is_no_reply given x y same
is_no_answer (Some report) given x y same = let e : ◌≡◌ {A = ℕ} 112 114 = other 0 _ _ same in omega arith

pub given_told : NoneBeginsAnother → GivenAreTold
given_told law (answered one) (answered two) more first second same = ap (λ (a : Answer). answered a) (law one two more first second same)
given_told law (answered one) point_short more first second same = absurd (is_no_answer one.report one.reply more [] (same ∙ sym (append-nil short_text)))
given_told law point_short (answered two) more first second same =
    absurd (is_no_answer two.report two.reply [] more (append-nil (report_text two.report ++ reply_text two.reply) ∙ sym same))
given_told law point_short point_short more first second same = refl
