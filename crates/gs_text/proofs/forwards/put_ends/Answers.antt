use Rattle.std.proofs.Common.{rules, ap, ◌∙◌, ◌≡◌, ◌+◌, ◌-◌, ◌++◌, List, ℕ, length, take, arith}
use Rattle.gs_text.proofs.Grown.{both_utf8, ends_put, last_put}
use Rattle.gs_text.proofs.forwards.put_ends.Goals as goal

pub returns-clause-written : goal.returns-clause-written
returns-clause-written g c =
    let more = c.args.more.now in
    let last = length more - g.row.N in
    let first : take (c.args.at + g.row.N) c.put_front.new.bytes ≡ take c.args.at c.args.bytes.now ++ take g.row.N more = search rules in
    let end : c.put_front-2.result ≡ c.args.at + length more = omega (arith, c.put_front-2.ensures.end, c.requires.many) in
    ends_put c.args.at g.row.N c.put_front-2.result c.args.bytes.now c.put_front.new.bytes c.put_front-2.new.bytes more c.requires.room c.requires.many c.requires.few end first (c.put_front-2.ensures.written ∙ ap (λ (xs : List ℕ). take (c.args.at + last) c.put_front.new.bytes ++ xs) (last_put g.row.N more c.requires.many))

pub returns-clause-utf8 : goal.returns-clause-utf8
returns-clause-utf8 g c more before = both_utf8 (take c.args.at c.args.bytes.now) c.args.more.now (take c.put_front-2.result c.put_front-2.new.bytes) (returns-clause-written g c) more before
