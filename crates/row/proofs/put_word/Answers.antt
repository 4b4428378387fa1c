-- `row::put_word` meets its contract. Assumes nothing.
use Rattle.std.proofs.Common.{Bool, leb, leb-true, sym, true, ◌+◌, ◌∙◌, ◌≡◌, ◌≤◌, ℕ, arith, length-take-le}
use Rattle.row.proofs.Answers.{as_written, part_kept, part_length, part_refusal, shown_bound, shown_refusal, shown_take, straight, word_whole}
use Rattle.row.proofs.put_word.Goals as goal

room : (at n : ℕ) (b : Bool) → b ≡ leb (at + 80) n → b ≡ true → at + 80 ≤ n
room at n b e t = leb-true (at + 80) n (sym e ∙ t)

pub overflow_add-out : goal.overflow_add-out
overflow_add-out c =
    let a = c.args in
    let w = a.out.now in
    let r = room _ _ _ c.has_room.ensures c.if-has_room.true in
    let e = rw c.in-Ok.is at c.print_word.ensures in
    let n = part_length w.bytes.now _ w.at _ r (word_whole a.form a.address a.word) c.in-Ok.n e in
    omega arith

pub returns-in-Ok : goal.returns-in-Ok
returns-in-Ok c =
    let a = c.args in
    let w = a.out.now in
    let r = room _ _ _ c.has_room.ensures c.if-has_room.true in
    let e = rw c.in-Ok.is at c.print_word.ensures in
    as_written w _ _ _ (straight w.bytes.now _ w.at _ r (word_whole a.form a.address a.word) c.in-Ok.n e)

pub returns-in-Err : goal.returns-in-Err
returns-in-Err c =
    let a = c.args in
    let w = a.out.now in
    let r = room _ _ _ c.has_room.ensures c.if-has_room.true in
    let e = rw c.in-Err.is at c.print_word.ensures in
    let h = word_whole a.form a.address a.word in
    let k = part_kept w.bytes.now _ w.at _ r h c.in-Err.refusal e in
    let t = part_refusal w.bytes.now _ w.at _ r h c.in-Err.refusal e in
    rw (k, t) at c.put_refusal.ensures

pub slice_bounds-line-end : goal.slice_bounds-line-end
slice_bounds-line-end c =
    let a = c.args in
    let e = rw c.in-Ok-print_word.is at c.print_word-2.ensures in
    shown_bound _ _ (omega arith) _ c.in-Ok-print_word.n (word_whole a.form a.address a.word) e

pub slice_bounds-put_text-end : goal.slice_bounds-put_text-end
slice_bounds-put_text-end c =
    let a = c.args in
    let e = rw c.in-Ok-print_word.is at c.print_word-2.ensures in
    sym (length-take-le _ _ (shown_bound _ _ (omega arith) _ c.in-Ok-print_word.n (word_whole a.form a.address a.word) e))

pub returns-in-Ok-print_word : goal.returns-in-Ok-print_word
returns-in-Ok-print_word c =
    let a = c.args in
    let e = rw c.in-Ok-print_word.is at c.print_word-2.ensures in
    let t = shown_take _ _ (omega arith) _ c.in-Ok-print_word.n (word_whole a.form a.address a.word) e in
    rw t at c.put_text.ensures

pub returns-in-Err-print_word : goal.returns-in-Err-print_word
returns-in-Err-print_word c =
    let a = c.args in
    let e = rw c.in-Err-print_word.is at c.print_word-2.ensures in
    let t = shown_refusal _ _ (omega arith) _ c.in-Err-print_word.refusal (word_whole a.form a.address a.word) e in
    rw t.0 at c.put_refusal-in-Err-print_word.ensures
