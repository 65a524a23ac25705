-- The text of an answer tells the answer, whatever follows.
use Rattle.std.proofs.Common.{◌≡◌, ◌∙◌, ◌++◌, ℕ, Option, Some, None, List, [], ◌∷◌, get_or, refl, sym, ap, arith, append_assoc}
use Rattle.std.specs.Prelude.{decimal, codes}
use Rattle.std.specs.List.{flat_map, AllByRecursion}
use Rattle.std.proofs.lemmas.List.{append-nil, append_cancel_left}
use Rattle.tree_model.specs.declared.reply.Reply.{Reply}
use Rattle.tree_model.specs.declared.reply.Reply.TheVariants.{Done, Data, Entries, Stat, Layout, Space, Refused}
use Rattle.tree_model.specs.declared.report.LineKind.{LineKind}
use Rattle.tree_model.specs.declared.report.LineKind.TheVariants.{Fresh, Share}
use Rattle.tree_model.specs.declared.report.Line.{Line}
use Rattle.tree_model.specs.declared.report.Report.{Report}
use Rattle.tree_model.specs.declared.report.Answer.{Answer}
use Rattle.reply_text.specs.Replies.{reply_text, line_kind_text, line_text, point_text, report_text, answer_text}
use Rattle.reply_text.specs.Telling.{IsReply, IsLine, IsReport, IsReportIfAny, NoneBeginsAnother}
use Rattle.reply_text.proofs.TellLemmas.{number_tells}
use Rattle.reply_text.proofs.ReplyLemmas.{refusal_first, reply_tells}

-- ---- lines of reports

line_right : (k : LineKind) (a b c d : ℕ) (x : List ℕ) → (line_kind_text k ++ decimal a ++ codes " " ++ decimal b ++ codes " " ++ decimal c ++ codes " " ++ decimal d ++ codes "\n") ++ x
    ≡ line_kind_text k ++ (decimal a ++ 32 ∷ (decimal b ++ 32 ∷ (decimal c ++ 32 ∷ (decimal d ++ 10 ∷ x))))
line_right k a b c d x = simp append_assoc

kinds_tell : (k l : LineKind) (x y : List ℕ) → line_kind_text k ++ x ≡ line_kind_text l ++ y → (k ≡ l) × (x ≡ y)
kinds_tell Fresh Fresh x y same = (refl, append_cancel_left (codes "fresh ") x y same)
kinds_tell Fresh Share x y same = let e : ◌≡◌ {A = ℕ} 102 115 = ap (λ (t : List ℕ). get_or t 0 0) same in absurd (omega arith)
kinds_tell Share Fresh x y same = let e : ◌≡◌ {A = ℕ} 115 102 = ap (λ (t : List ℕ). get_or t 0 0) same in absurd (omega arith)
kinds_tell Share Share x y same = (refl, append_cancel_left (codes "share ") x y same)

same_line : (a b : Line) → a.kind ≡ b.kind → a.number ≡ b.number → a.place ≡ b.place → a.length ≡ b.length → a.block ≡ b.block → a ≡ b
same_line a b k n p l c =
    let with_kind : LineKind → Line = λ z. record { kind = z; number = a.number; place = a.place; length = a.length; block = a.block } in
    let with_number : ℕ → Line = λ z. record { kind = b.kind; number = z; place = a.place; length = a.length; block = a.block } in
    let with_place : ℕ → Line = λ z. record { kind = b.kind; number = b.number; place = z; length = a.length; block = a.block } in
    let with_length : ℕ → Line = λ z. record { kind = b.kind; number = b.number; place = b.place; length = z; block = a.block } in
    let with_block : ℕ → Line = λ z. record { kind = b.kind; number = b.number; place = b.place; length = b.length; block = z } in
    ap with_kind k ∙ ap with_number n ∙ ap with_place p ∙ ap with_length l ∙ ap with_block c

line_tells : (a b : Line) (x y : List ℕ) → IsLine a → IsLine b → line_text a ++ x ≡ line_text b ++ y → a ≡ b
line_tells a b x y one two same =
    let right = sym (line_right a.kind a.number a.place a.length a.block x) ∙ same ∙ line_right b.kind b.number b.place b.length b.block y in
    let kinds = kinds_tell a.kind b.kind _ _ right in
    let first = number_tells a.number b.number 32 32 _ _ one.number two.number refl refl kinds.1 in
    let second_text : decimal a.place ++ 32 ∷ (decimal a.length ++ 32 ∷ (decimal a.block ++ 10 ∷ x)) ≡ decimal b.place ++ 32 ∷ (decimal b.length ++ 32 ∷ (decimal b.block ++ 10 ∷ y)) = let e = first.1 in cc in
    let second = number_tells a.place b.place 32 32 _ _ one.place two.place refl refl second_text in
    let third_text : decimal a.length ++ 32 ∷ (decimal a.block ++ 10 ∷ x) ≡ decimal b.length ++ 32 ∷ (decimal b.block ++ 10 ∷ y) = let e = second.1 in cc in
    let third = number_tells a.length b.length 32 32 _ _ one.size two.size refl refl third_text in
    let fourth_text : decimal a.block ++ 10 ∷ x ≡ decimal b.block ++ 10 ∷ y = let e = third.1 in cc in
    let fourth = number_tells a.block b.block 10 10 x y one.block two.block refl refl fourth_text in
    same_line a b kinds.0 first.0 second.0 third.0 fourth.0

-- no reply begins as a line of a report does, nor as a report
kind_is_no_reply : (r : Reply) (l : LineKind) (x y : List ℕ) → reply_text r ++ x ≡ line_kind_text l ++ y → ⊥
kind_is_no_reply Done Fresh x y same = let e : ◌≡◌ {A = ℕ} 111 102 = ap (λ (t : List ℕ). get_or t 0 0) same in omega arith
kind_is_no_reply Done Share x y same = let e : ◌≡◌ {A = ℕ} 111 115 = ap (λ (t : List ℕ). get_or t 0 0) same in omega arith
kind_is_no_reply (Data a) Fresh x y same = let e : ◌≡◌ {A = ℕ} 100 102 = ap (λ (t : List ℕ). get_or t 0 0) same in omega arith
kind_is_no_reply (Data a) Share x y same = let e : ◌≡◌ {A = ℕ} 100 115 = ap (λ (t : List ℕ). get_or t 0 0) same in omega arith
kind_is_no_reply (Entries a) Fresh x y same = let e : ◌≡◌ {A = ℕ} 108 102 = ap (λ (t : List ℕ). get_or t 0 0) same in omega arith
kind_is_no_reply (Entries a) Share x y same = let e : ◌≡◌ {A = ℕ} 108 115 = ap (λ (t : List ℕ). get_or t 0 0) same in omega arith
kind_is_no_reply (Stat k m n) Fresh x y same = let e : ◌≡◌ {A = ℕ} 115 102 = ap (λ (t : List ℕ). get_or t 0 0) same in omega arith
kind_is_no_reply (Stat k m n) Share x y same = let e : ◌≡◌ {A = ℕ} 116 104 = ap (λ (t : List ℕ). get_or t 1 0) same in omega arith
kind_is_no_reply (Layout a) Fresh x y same = let e : ◌≡◌ {A = ℕ} 108 102 = ap (λ (t : List ℕ). get_or t 0 0) same in omega arith
kind_is_no_reply (Layout a) Share x y same = let e : ◌≡◌ {A = ℕ} 108 115 = ap (λ (t : List ℕ). get_or t 0 0) same in omega arith
kind_is_no_reply (Space k m n) Fresh x y same = let e : ◌≡◌ {A = ℕ} 115 102 = ap (λ (t : List ℕ). get_or t 0 0) same in omega arith
kind_is_no_reply (Space k m n) Share x y same = let e : ◌≡◌ {A = ℕ} 112 104 = ap (λ (t : List ℕ). get_or t 1 0) same in omega arith
kind_is_no_reply (Refused r) Fresh x y same = let e : ◌≡◌ {A = ℕ} 114 102 = sym (refusal_first r x) ∙ ap (λ (t : List ℕ). get_or t 0 0) same in omega arith
kind_is_no_reply (Refused r) Share x y same = let e : ◌≡◌ {A = ℕ} 114 115 = sym (refusal_first r x) ∙ ap (λ (t : List ℕ). get_or t 0 0) same in omega arith

report_is_no_reply : (r : Reply) (x y : List ℕ) → reply_text r ++ x ≡ codes "point " ++ y → ⊥
report_is_no_reply Done x y same = let e : ◌≡◌ {A = ℕ} 111 112 = ap (λ (t : List ℕ). get_or t 0 0) same in omega arith
report_is_no_reply (Data a) x y same = let e : ◌≡◌ {A = ℕ} 100 112 = ap (λ (t : List ℕ). get_or t 0 0) same in omega arith
report_is_no_reply (Entries a) x y same = let e : ◌≡◌ {A = ℕ} 108 112 = ap (λ (t : List ℕ). get_or t 0 0) same in omega arith
report_is_no_reply (Stat k m n) x y same = let e : ◌≡◌ {A = ℕ} 115 112 = ap (λ (t : List ℕ). get_or t 0 0) same in omega arith
report_is_no_reply (Layout a) x y same = let e : ◌≡◌ {A = ℕ} 108 112 = ap (λ (t : List ℕ). get_or t 0 0) same in omega arith
report_is_no_reply (Space k m n) x y same = let e : ◌≡◌ {A = ℕ} 115 112 = ap (λ (t : List ℕ). get_or t 0 0) same in omega arith
report_is_no_reply (Refused r) x y same = let e : ◌≡◌ {A = ℕ} 114 112 = sym (refusal_first r x) ∙ ap (λ (t : List ℕ). get_or t 0 0) same in omega arith

line_is_no_reply : (r : Reply) (a : Line) (x y : List ℕ) → reply_text r ++ x ≡ line_text a ++ y → ⊥
line_is_no_reply r a x y same = kind_is_no_reply r a.kind x _ (same ∙ line_right a.kind a.number a.place a.length a.block y)

-- lines and a reply behind them
lines_tell : (ones others : List Line) (r s : Reply) (x y : List ℕ) → AllByRecursion IsLine ones → AllByRecursion IsLine others
    → flat_map line_text ones ++ (reply_text r ++ x) ≡ flat_map line_text others ++ (reply_text s ++ y) → (ones ≡ others) × (reply_text r ++ x ≡ reply_text s ++ y)
lines_tell [] [] r s x y one two same = (refl, same)
lines_tell [] (b ∷ others) r s x y one two same = absurd (line_is_no_reply r b x (flat_map line_text others ++ (reply_text s ++ y)) (same ∙ append_assoc (line_text b) (flat_map line_text others) (reply_text s ++ y)))
lines_tell (a ∷ ones) [] r s x y one two same = absurd (line_is_no_reply s a y (flat_map line_text ones ++ (reply_text r ++ x)) (sym same ∙ append_assoc (line_text a) (flat_map line_text ones) (reply_text r ++ x)))
lines_tell (a ∷ ones) (b ∷ others) r s x y one two same =
    let front = flat_map line_text ones ++ (reply_text r ++ x) in
    let back = flat_map line_text others ++ (reply_text s ++ y) in
    let regrouped : line_text a ++ front ≡ line_text b ++ back = sym (append_assoc (line_text a) (flat_map line_text ones) (reply_text r ++ x)) ∙ same ∙ append_assoc (line_text b) (flat_map line_text others) (reply_text s ++ y) in
    let head = line_tells a b front back one.0 two.0 regrouped in
    let tails = append_cancel_left (line_text a) front back (regrouped ∙ ap (λ (c : Line). line_text c ++ back) (sym head)) in
    let rest = lines_tell ones others r s x y one.1 two.1 tails in
    (ap (λ (c : Line). c ∷ ones) head ∙ ap (λ (c : List Line). b ∷ c) rest.0, rest.1)

-- ---- reports

point_right : (a b c d : ℕ) (x : List ℕ) → (codes "point " ++ decimal a ++ codes " fresh=" ++ decimal b ++ codes " shared=" ++ decimal c ++ codes " free=" ++ decimal d ++ codes "\n") ++ x
    ≡ codes "point " ++ (decimal a ++ 32 ∷ (codes "fresh=" ++ (decimal b ++ 32 ∷ (codes "shared=" ++ (decimal c ++ 32 ∷ (codes "free=" ++ (decimal d ++ 10 ∷ x)))))))
point_right a b c d x = simp append_assoc

same_report : (a b : Report) → a.number ≡ b.number → a.fresh ≡ b.fresh → a.shared ≡ b.shared → a.free ≡ b.free → a.lines ≡ b.lines → a ≡ b
same_report a b n f s r l =
    let with_number : ℕ → Report = λ z. record { number = z; fresh = a.fresh; shared = a.shared; free = a.free; lines = a.lines } in
    let with_fresh : ℕ → Report = λ z. record { number = b.number; fresh = z; shared = a.shared; free = a.free; lines = a.lines } in
    let with_shared : ℕ → Report = λ z. record { number = b.number; fresh = b.fresh; shared = z; free = a.free; lines = a.lines } in
    let with_free : ℕ → Report = λ z. record { number = b.number; fresh = b.fresh; shared = b.shared; free = z; lines = a.lines } in
    let with_lines : List Line → Report = λ z. record { number = b.number; fresh = b.fresh; shared = b.shared; free = b.free; lines = z } in
    ap with_number n ∙ ap with_fresh f ∙ ap with_shared s ∙ ap with_free r ∙ ap with_lines l

reports_tell : (a b : Report) (r s : Reply) (x y : List ℕ) → IsReport a → IsReport b → (point_text a ++ flat_map line_text a.lines) ++ (reply_text r ++ x) ≡ (point_text b ++ flat_map line_text b.lines) ++ (reply_text s ++ y)
    → (a ≡ b) × (reply_text r ++ x ≡ reply_text s ++ y)
reports_tell a b r s x y one two same =
    let front = flat_map line_text a.lines ++ (reply_text r ++ x) in
    let back = flat_map line_text b.lines ++ (reply_text s ++ y) in
    let right = sym (append_assoc (point_text a) (flat_map line_text a.lines) (reply_text r ++ x) ∙ point_right a.number a.fresh a.shared a.free front) ∙ same ∙ append_assoc (point_text b) (flat_map line_text b.lines) (reply_text s ++ y) ∙ point_right b.number b.fresh b.shared b.free back in
    let first_text = append_cancel_left (codes "point ") _ _ right in
    let first = number_tells a.number b.number 32 32 _ _ one.number two.number refl refl first_text in
    let second_text = append_cancel_left (codes " fresh=") (decimal a.fresh ++ 32 ∷ (codes "shared=" ++ (decimal a.shared ++ 32 ∷ (codes "free=" ++ (decimal a.free ++ 10 ∷ front))))) (decimal b.fresh ++ 32 ∷ (codes "shared=" ++ (decimal b.shared ++ 32 ∷ (codes "free=" ++ (decimal b.free ++ 10 ∷ back))))) first.1 in
    let second = number_tells a.fresh b.fresh 32 32 _ _ one.fresh two.fresh refl refl second_text in
    let third_text = append_cancel_left (codes " shared=") (decimal a.shared ++ 32 ∷ (codes "free=" ++ (decimal a.free ++ 10 ∷ front))) (decimal b.shared ++ 32 ∷ (codes "free=" ++ (decimal b.free ++ 10 ∷ back))) second.1 in
    let third = number_tells a.shared b.shared 32 32 _ _ one.shared two.shared refl refl third_text in
    let fourth_text = append_cancel_left (codes " free=") (decimal a.free ++ 10 ∷ front) (decimal b.free ++ 10 ∷ back) third.1 in
    let fourth = number_tells a.free b.free 10 10 front back one.free two.free refl refl fourth_text in
    let lines = lines_tell a.lines b.lines r s x y one.lines two.lines (append_cancel_left (codes "\n") front back fourth.1) in
    (same_report a b first.0 second.0 third.0 fourth.0 lines.0, lines.1)

-- ---- answers

abbrev Told : Option Report → Reply → Option Report → Reply → Type 0
Told a r b s = (a ≡ b) × (r ≡ s)

told : (a b : Option Report) (r s : Reply) (x y : List ℕ) → IsReportIfAny a → IsReportIfAny b → IsReply r → IsReply s → (report_text a ++ reply_text r) ++ x ≡ (report_text b ++ reply_text s) ++ y → Told a r b s
told None None r s x y one two three four same = (refl, reply_tells r s x y three four same)
told None (Some b) r s x y one two three four same =
    absurd (report_is_no_reply r x _ (same ∙ append_assoc (point_text b ++ flat_map line_text b.lines) (reply_text s) y ∙ append_assoc (point_text b) (flat_map line_text b.lines) (reply_text s ++ y) ∙ point_right b.number b.fresh b.shared b.free (flat_map line_text b.lines ++ (reply_text s ++ y))))
told (Some a) None r s x y one two three four same =
    absurd (report_is_no_reply s y _ (sym same ∙ append_assoc (point_text a ++ flat_map line_text a.lines) (reply_text r) x ∙ append_assoc (point_text a) (flat_map line_text a.lines) (reply_text r ++ x) ∙ point_right a.number a.fresh a.shared a.free (flat_map line_text a.lines ++ (reply_text r ++ x))))
told (Some a) (Some b) r s x y one two three four same =
    let regrouped = sym (append_assoc (point_text a ++ flat_map line_text a.lines) (reply_text r) x) ∙ same ∙ append_assoc (point_text b ++ flat_map line_text b.lines) (reply_text s) y in
    let reports = reports_tell a b r s x y one two regrouped in
    (ap (λ (z : Report). Some z) reports.0, reply_tells r s x y three four reports.1)

pub none_begins : NoneBeginsAnother
none_begins one two more first second same =
    let parts = told one.report two.report one.reply two.reply more [] first.report second.report first.reply second.reply (same ∙ sym (append-nil (answer_text two))) in
    let with_report : Option Report → Answer = λ z. record { report = z; reply = one.reply } in
    let with_reply : Reply → Answer = λ z. record { report = two.report; reply = z } in
    ap with_report parts.0 ∙ ap with_reply parts.1
