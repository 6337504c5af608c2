use Rattle.std.proofs.Common.{◌≡◌, ◌-◌, length, drop, sym, ap, ◌∙◌, arith}
use Rattle.netlist.specs.Tokens.{gap, at, first_word, spelling, Tok}
use Rattle.netlist.proofs.Gaps.{gap_within, first_size, spelling_size, first_within, next_first, next_after}
use Rattle.netlist.proofs.tokens.scanner.Scanner.next_token.Goals as goal
use Rattle.netlist.proofs.tokens.scanner.Scanner.next_token.Goals.{After-first_token-token}

pub split_at-requires : goal.split_at-requires
split_at-requires c = omega (arith, gap_within c.args.self.now.rest.now)

-- the token has the bytes that it takes from the text
size : (c : After-first_token-token) → length c.first_token-token.result.bytes.now ≡ first_size c.split_at.result.1.now
size c = ap length c.first_token-token.ensures.bytes ∙ spelling_size c.split_at.result.1.now

pub split_at-requires-2 : goal.split_at-requires-2
split_at-requires-2 c = omega (arith, size (goal.at.split_at-requires-2 c).After-first_token-token, first_within c.split_at.result.1.now)

pub returns : goal.returns
returns c =
    let s = c.args.self.now.rest.now in
    let text = c.split_at.result.1.now in
    let left = c.split_at-2.result.1.now in
    let token = c.first_token-token in
    let n = length token.result.bytes.now in
    let l = c.args.self.now.line in
    let e = c.args.self.now.end in
    let back : text ≡ drop (gap s) s = c.split_at.ensures.back ∙ ap (λ k. drop k s) c.gap_len.ensures in
    let whole = size (goal.at.returns c).After-first_token-token in
    let told = next_first l e s text left n back whole c.split_at-2.ensures.back in
    let column : c.saturating_sub.result ≡ e - length text = c.saturating_sub.ensures in
    record {
      token = token.ensures.word ∙ ap (λ k. at l k (first_word text)) column ∙ sym told;
      bytes = token.ensures.bytes ∙ ap (λ (t : Tok). spelling t.word) (sym told);
      rest = sym (next_after l e s text left n back whole c.split_at-2.ensures.back);
    }
