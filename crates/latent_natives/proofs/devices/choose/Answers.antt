use Rattle.std.proofs.Common.{◌≡◌, ℕ, ◌<◌, ◌%◌, ℤ, pos, ◌+ℤ◌, ◌-ℤ◌, to_z, of_z, w32, w64, FitsSigned, arith, ◌∙◌, ap}
use Rattle.std.proofs.lemmas.Int.{ints, to_z-of_z}
use Rattle.latent_natives.proofs.devices.choose.Goals as goal

-- an offset within the range takes the sum past no width
offset_fits : (low high : ℤ) (offset size : ℕ) → FitsSigned w32 low → FitsSigned w32 high → offset < size → pos size ≡ high -ℤ low +ℤ pos 1 → to_z w32 (of_z w32 (to_z w64 (of_z w64 (to_z w64 (of_z w64 low) +ℤ to_z w64 offset)))) ≡ low +ℤ pos offset
offset_fits low high offset size fits_low fits_high below whole = omega (arith, ints)

pub returns : goal.returns
returns c =
    let fits_low : FitsSigned w32 c.args.low = c.ranges.low in
    let fits_high : FitsSigned w32 c.args.high = c.ranges.high in
    let fits_cell : FitsSigned w32 c.args.cell = c.ranges.cell in
    let low_is : c.from-2.result ≡ c.args.low = c.from-2.ensures ∙ to_z-of_z w32 c.args.low fits_low in
    let word_is : c.from.result ≡ of_z w32 c.args.cell =
    c.from.ensures ∙ c.cast_unsigned.ensures ∙ ap (of_z w32) (to_z-of_z w32 c.args.cell fits_cell) in
    let size_is = simp to_z-of_z at c.range_size.ensures.size in
    let whole = simp to_z-of_z at c.range_size.ensures.whole in
    rw (low_is, word_is)
    (offset_fits c.args.low c.args.high (of_z w32 c.args.cell % c.range_size.result) c.range_size.result fits_low fits_high (omega (arith, ints)) whole
    ∙ ap (λ n. c.args.low +ℤ pos (of_z w32 c.args.cell % n)) size_is)
