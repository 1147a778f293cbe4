mod Small
mod Written
