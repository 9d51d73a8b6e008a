use Rattle.std.proofs.Common.{◌≡◌, ℕ, ◌%◌, false, ap, eqb, length, get_or, map, vec_items, refl, ◌∙◌, rules, tests}
use Rattle.net_text.specs.declared.net.Place.{Place}
use Rattle.net_text.specs.declared.net.Move.{Move}
use Rattle.net_text.specs.Nets.{no_place, no_move, tokens_at, letter_at}
use Rattle.plant.proofs.Made.{mapped}
use Rattle.bank.specs.Banks.{letter}
use Rattle.bank.specs.Making.{BankText}
use Rattle.bank.proofs.Building.{made_net, made_tokens}
use Rattle.bank.proofs.Ringed.{bank_machines}
use Rattle.bank.proofs.making.make.Goals as goal

pub returns : goal.returns
returns c =
    let ps = vec_items c.args.net.now.places in
    let ms = vec_items c.args.net.now.moves in
    let text : BankText c.args.net.now = c.if-not-is_bank.ensures.0 refl in
    let counted : c.len.result ≡ length ps = search rules in
    let tokens : (p : ℕ) → letter c.bits.result p ≡ eqb (tokens_at ps p) 1 = λ p.
    c.bits.ensures.bits (λ x. eqb x.tokens 1) (λ x b k. search (rules, tests)) p
    ∙ (λ i. get_or (map (λ (x : Place). eqb x.tokens 1) (c.deref.ensures.value i)) p false) ∙ mapped (λ (x : Place). eqb x.tokens 1) ps no_place p in
    let letters : (t : ℕ) → letter c.bits-2.result t ≡ letter_at ms t = λ t.
    c.bits-2.ensures.bits (λ x. x.controllable) (λ x b k. search (rules, tests)) t
    ∙ (λ i. get_or (map (λ (x : Move). x.controllable) (c.deref-2.ensures.value i)) t false) ∙ mapped (λ (x : Move). x.controllable) ms no_move t in (
      text,
      record {
        net = made_net c.len.result c.bits-2.result (length ps) ms counted letters;
        machines = bank_machines c.len.result (letter c.bits-2.result) (ap (λ (n : ℕ). n % 4) counted ∙ text.shaped.whole);
        tokens = made_tokens c.bits.result ps text.single tokens;
      },
    )
