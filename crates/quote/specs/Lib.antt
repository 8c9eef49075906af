-- A quotation. `Quotation`: its figures, its checks and what it leaves of the scratch. `AsDivided`: its figures beside
-- those of a division. `Refused`: what is refused where it has none. `QuotationSteps`: how the program finds the
-- figures, which need not be read.
pub mod Quotation
pub mod Refused
pub mod AsDivided
pub mod QuotationSteps
