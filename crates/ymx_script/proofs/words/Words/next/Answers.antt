use Rattle.std.proofs.Common.{List, ℕ, [], ◌∷◌, take, cond, ◌∙◌, ap, sym}
use Rattle.ymx_script.specs.Words.{words}
use Rattle.ymx_script.proofs.Cuts.{last_word, next_word}
use Rattle.ymx_script.proofs.words.Words.next.Goals as goal

pub returns-in_default : goal.returns-in_default
returns-in_default c = last_word c.self.inside.over c.self.inside.rest.now _ c.space_in.result c.self.view_is c.if-self.false c.space_in.ensures c.in_default.is

pub returns : goal.returns
returns c =
    next_word c.self.inside.over c.self.inside.rest.now _ c.space_in.result c.in-Some.space c.self.view_is c.if-self.false c.space_in.ensures c.in-Some.is
    ∙ ap (λ (zs : List ℕ). take c.in-Some.space c.self.inside.rest.now ∷ cond c.self.inside.over [] (words zs)) (sym c.bytes_from-self-inside.ensures)
